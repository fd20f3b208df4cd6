use Rattle.std.proofs.Common.{◌≡◌, ◌++◌, ◌∷◌, [], List, ℕ, sym, subst, rules}
use Rattle.gs1_base.specs.Percent.{ReadsBefore}
use Rattle.gs1_base.proofs.Lists.{some_left, none_left, some_bytes}
use Rattle.gs1_base.proofs.Percents.{read_more, read_all, never_stuck, after_shorter}
use Rattle.gs1_base.proofs.percent.percent_decoded.Goals as goal

pub unreachable-requires : goal.unreachable-requires
unreachable-requires c =
    let whole = c.in-Some.ensures.some in
    never_stuck _ _ _ _ whole.1 c.loop-rest.invariant
    (some_bytes _ (some_left _ _ c.is_empty.ensures c.loop-rest-test.true)) c.in_default-first_byte.ensures.none

pub loop-rest-smaller : goal.loop-rest-smaller
loop-rest-smaller c =
    rw c.after_byte-rest.ensures (after_shorter _ (some_left _ _ c.is_empty.ensures c.loop-rest-test.true))

pub loop-rest-preserved : goal.loop-rest-preserved
loop-rest-preserved c =
    let begins = c.in-Some-first_byte.ensures.some in
    let P : List ℕ → Type 0 = λ items. ReadsBefore c.args.text.now items c.after_byte-rest.result.now in
    let pushed : c.push.new.self.items ≡ c.loop-rest.bytes.items ++ c.in-Some-first_byte.byte ∷ [] = search rules in
    subst P (sym pushed) (rw c.after_byte-rest.ensures (read_more _ _ _ _ c.loop-rest.invariant begins.0 begins.1))

pub returns-clause-read : goal.returns-clause-read
returns-clause-read c =
    read_all _ _ _ c.loop-rest.invariant (none_left _ _ c.is_empty.ensures c.loop-rest-test.false)
