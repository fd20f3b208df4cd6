use Rattle.std.proofs.Common.{◌≡◌, ◌<◌, ◌≤◌, ℕ, get_or, length}
use Rattle.text_plans.specs.Keeping.{kept_up_to}
use Rattle.text_plans.specs.Search.{lane_before, no_rest}
use Rattle.text_plans.proofs.row.listed_row.Given as goal

abbrev pub invariant-loop-at : goal.invariant-loop-at
invariant-loop-at l =
    (length l.row ≡ 17)
    × ((j : ℕ) → j < l.at →
    get_or l.row (get_or (kept_up_to l.rules.kept 15) j 0) no_rest
    ≡ lane_before l.rules l.facts l.begins.switched (get_or (kept_up_to l.rules.kept 15) j 0) (get_or l.fn.row (get_or (kept_up_to l.rules.kept 15) j 0) no_rest))
    × ((j : ℕ) → l.at ≤ j → j < l.rules.count →
    get_or l.row (get_or (kept_up_to l.rules.kept 15) j 0) no_rest ≡ get_or l.fn.row (get_or (kept_up_to l.rules.kept 15) j 0) no_rest)
    × (get_or l.row 0 no_rest ≡ get_or l.fn.row 0 no_rest)
    × (get_or l.row 16 no_rest ≡ get_or l.fn.row 16 no_rest)
