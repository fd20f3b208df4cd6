use Rattle.std.proofs.Common.{◌≡◌, ℕ, ◌<◌, get_or, length}
use Rattle.text_plans.specs.Lanes.{IsSize}
use Rattle.text_plans.proofs.facts.sizes_of.Given as goal

abbrev pub invariant-loop-lane : goal.invariant-loop-lane
invariant-loop-lane l =
    (length l.sizes ≡ 17) × ((k : ℕ) → k < l.lane → IsSize k l.c (get_or l.sizes k 0))
