use Rattle.std.proofs.Common.{◌≡◌, ℕ, ◌<◌, false, get_or, length}
use Rattle.text_plans.proofs.keep.add_lanes.Given as goal

abbrev pub invariant-loop-lane : goal.invariant-loop-lane
invariant-loop-lane l =
    (length l.lanes ≡ 17)
    × ((k : ℕ) → get_or l.lanes k false ≡ false → get_or l.fn.lanes k false ≡ false)
    × ((k : ℕ) → k < l.lane → get_or l.lanes k false ≡ false → get_or l.facts.sizes k 0 ≡ 0)
