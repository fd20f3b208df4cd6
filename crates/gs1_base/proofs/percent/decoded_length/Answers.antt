use Rattle.std.proofs.Common.{◌++◌, ◌∷◌, [], arith}
use Rattle.gs1_base.proofs.Lists.{some_left, none_left, some_bytes}
use Rattle.gs1_base.proofs.Percents.{read_more, read_all, never_stuck, after_shorter}
use Rattle.gs1_base.proofs.percent.decoded_length.Goals as goal

pub returns-in_err-first_byte-clause-none : goal.returns-in_err-first_byte-clause-none
returns-in_err-first_byte-clause-none c =
    let known = c.loop-rest.invariant.0 in
    rw c.from_residual.ensures (λ bytes read. never_stuck _ bytes _ _ read known.1
    (some_bytes _ (some_left _ _ c.is_empty.ensures c.loop-rest-test.true)) c.in_err-first_byte.ensures.none)

pub loop-rest-smaller : goal.loop-rest-smaller
loop-rest-smaller c =
    rw c.after_byte-rest.ensures (after_shorter _ (some_left _ _ c.is_empty.ensures c.loop-rest-test.true))

pub loop-rest-preserved : goal.loop-rest-preserved
loop-rest-preserved c =
    let known = c.loop-rest.invariant.0 in
    let begins = c.in_ok-first_byte.ensures.some in
    let less = after_shorter _ (some_left _ _ c.is_empty.ensures c.loop-rest-test.true) in (
      (
        known.0 ++ c.in_ok-first_byte.field-0 ∷ [],
        rw c.after_byte-rest.ensures (read_more _ _ _ _ known.1 begins.0 begins.1),
      ),
      rw c.after_byte-rest.ensures (omega (arith, less, c.loop-rest.invariant.1)),
    )

pub returns-clause-some : goal.returns-clause-some
returns-clause-some c =
    let known = c.loop-rest.invariant.0 in (
      known.0,
      read_all _ _ _ known.1 (none_left _ _ c.is_empty.ensures c.loop-rest-test.false),
    )
