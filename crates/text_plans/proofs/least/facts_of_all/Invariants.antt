use Rattle.std.proofs.Common.{take}
use Rattle.text_plans.specs.Lanes.{AreAllFacts}
use Rattle.text_plans.proofs.least.facts_of_all.Given as goal

abbrev pub invariant-loop-c : goal.invariant-loop-c
invariant-loop-c l = AreAllFacts (take l.c-index l.chars) l.all.items
