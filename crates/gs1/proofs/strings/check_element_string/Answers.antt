use Rattle.std.proofs.Common.{◌++◌, ◌∷◌, [], List, ℕ, arith, subst, length-append}
use Rattle.std.proofs.lemmas.Result.{err_from_is_err_and}
use Rattle.gs1.specs.Strings.{FindsBefore}
use Rattle.gs1.proofs.Cuts.{before_more, faultless_more, faultless, shorter}
use Rattle.gs1_base.proofs.Lists.{some_left, none_left, some_bytes}
use Rattle.gs1.proofs.Refusals.{refused_by, no_memory}
use Rattle.gs1.proofs.strings.check_element_string.Goals as goal

-- Why the bytes are refused.
pub returns-in_err-check_first-clause-refusal : goal.returns-in_err-check_first-clause-refusal
returns-in_err-check_first-clause-refusal c =
    let p = err_from_is_err_and c.from_residual.result c.from_residual.ensures.1 in
    let known = c.loop-rest.invariant.0 in
    rw (p.1, p.2) (refused_by c.args.bytes.now known.0 c.loop-rest.rest.now c.loop-rest.element _ known.1 known.2
    known.3 (some_bytes _ (some_left _ _ c.is_empty-in-loop-rest.ensures c.loop-rest-test.true)) c.in_err-check_first.ensures.fault)

pub returns-in_err-check_first-clause-memory : goal.returns-in_err-check_first-clause-memory
returns-in_err-check_first-clause-memory c =
    let p = err_from_is_err_and c.from_residual.result c.from_residual.ensures.1 in
    no_memory c.from_residual.result c.loop-rest.element c.loop-rest.rest.now p.0 _ p.1 p.2 c.in_err-check_first.ensures.fault

pub loop-rest-smaller : goal.loop-rest-smaller
loop-rest-smaller c =
    rw c.behind_first-rest.ensures (shorter _ (some_left _ _ c.is_empty-in-loop-rest.ensures c.loop-rest-test.true))

pub loop-rest-preserved : goal.loop-rest-preserved
loop-rest-preserved c =
    let known = c.loop-rest.invariant.0 in
    let e = c.in_ok-check_first.ensures.sound in
    let less = shorter _ (some_left _ _ c.is_empty-in-loop-rest.ensures c.loop-rest-test.true) in (
      (
        known.0 ++ e.0 ∷ [],
        rw c.behind_first-rest.ensures (before_more c.args.bytes.now known.0 c.loop-rest.rest.now e.0 known.1 e.1),
        faultless_more 0 c.loop-rest.element known.0 e.0 (omega (arith, known.3)) known.2 e.2,
        omega (arith, known.3, length-append known.0 (e.0 ∷ [])),
      ),
      rw c.behind_first-rest.ensures (omega (arith, less, c.loop-rest.invariant.1)),
    )

pub returns-clause-faultless : goal.returns-clause-faultless
returns-clause-faultless c =
    let known = c.loop-rest.invariant.0 in
    faultless c.args.bytes.now known.0 (some_bytes _ (some_left _ _ c.is_empty.ensures c.if-is_empty.false))
    (let P : List ℕ → Type 0 = λ rest. FindsBefore c.args.bytes.now known.0 rest in
    subst P (none_left _ _ c.is_empty-in-loop-rest.ensures c.loop-rest-test.false) known.1) known.2
