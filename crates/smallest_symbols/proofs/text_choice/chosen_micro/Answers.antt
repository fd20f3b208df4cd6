-- The first version that something fits is the choice.
use Rattle.std.proofs.Common.{arith}
use Rattle.smallest_symbols.proofs.TextVersions.{micro_chosen, none_more}
use Rattle.smallest_symbols.proofs.text_choice.chosen_micro.Goals as goal

pub returns-in-Some-clause-chosen : goal.returns-in-Some-clause-chosen
returns-in-Some-clause-chosen c =
    let found = rw c.in-Some.is at c.in_ok-choice.ensures in
    micro_chosen _ _ c.loop-smaller.smaller _ _ (omega arith) c.loop-smaller.invariant found.number found.fits

pub loop-smaller-preserved : goal.loop-smaller-preserved
loop-smaller-preserved c =
    none_more _ _ c.loop-smaller.smaller c.loop-smaller.invariant (rw c.in_default.is at c.in_ok-choice.ensures.none)

pub returns-clause-refusal : goal.returns-clause-refusal
returns-clause-refusal c = λ n few. c.loop-smaller.invariant n (omega (arith, few, c.loop-smaller-test.false))
