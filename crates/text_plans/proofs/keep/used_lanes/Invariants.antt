use Rattle.std.proofs.Common.{◌≡◌, ℕ, ◌<◌, All, false, take, get_or, length}
use Rattle.text_plans.specs.declared.facts.Facts.{Facts}
use Rattle.text_plans.specs.Keeping.{TakesNoMore}
use Rattle.text_plans.proofs.keep.used_lanes.Given as goal

abbrev pub invariant-loop-facts : goal.invariant-loop-facts
invariant-loop-facts l =
    (length l.used ≡ 17)
    × ((lane : ℕ) → lane < 17 → get_or l.used lane false ≡ false →
    All (λ (facts : Facts). TakesNoMore 15 lane facts.sizes) (take l.facts-index l.all))
