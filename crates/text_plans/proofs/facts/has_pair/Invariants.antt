use Rattle.std.proofs.Common.{All, take}
use Rattle.text_plans.proofs.Pairs.{IsNoPair}
use Rattle.text_plans.proofs.facts.has_pair.Given as goal

abbrev pub invariant-loop-facts : goal.invariant-loop-facts
invariant-loop-facts l = All IsNoPair (take l.facts-index l.all)
