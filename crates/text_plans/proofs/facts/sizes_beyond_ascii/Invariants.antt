use Rattle.std.proofs.Common.{◌≡◌, ℕ, ◌+◌, ◌<◌, get_or, length}
use Rattle.text_plans.specs.Lanes.{IsSize}
use Rattle.text_plans.proofs.facts.sizes_beyond_ascii.Given as goal

abbrev pub invariant-loop-part : goal.invariant-loop-part
invariant-loop-part l =
    (length l.sizes ≡ 17)
    × ((k : ℕ) → k < l.part → IsSize (k + 1) l.fn.c (get_or l.sizes (k + 1) 0))
    × (get_or l.sizes 0 0 ≡ 0)
    × IsSize 14 l.fn.c (get_or l.sizes 14 0)
    × IsSize 15 l.fn.c (get_or l.sizes 15 0)
    × (get_or l.sizes 16 0 ≡ 0)
