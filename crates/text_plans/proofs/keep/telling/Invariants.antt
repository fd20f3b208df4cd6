use Rattle.std.proofs.Common.{◌<◌, ℕ, All, take}
use Rattle.text_plans.specs.declared.facts.Facts.{Facts}
use Rattle.text_plans.specs.Keeping.{StandFor, TakesNoMore}
use Rattle.text_plans.proofs.keep.telling.Given as goal

abbrev pub invariant-loop-facts : goal.invariant-loop-facts
invariant-loop-facts l =
    StandFor l.some.items (take l.facts-index l.all)
    × ((to lane : ℕ) → to < 17 → lane < 17 → All (λ (facts : Facts). TakesNoMore to lane facts.sizes) l.some.items → TakesNoMore to lane l.last)
