use Rattle.std.proofs.Common.{All, take}
use Rattle.text_plans.specs.declared.facts.Facts.{Facts}
use Rattle.text_plans.specs.Keeping.{TakesNoMore}
use Rattle.text_plans.proofs.keep.dominates.Given as goal

abbrev pub invariant-loop-facts : goal.invariant-loop-facts
invariant-loop-facts l = All (λ (facts : Facts). TakesNoMore l.to l.lane facts.sizes) (take l.facts-index l.all)
