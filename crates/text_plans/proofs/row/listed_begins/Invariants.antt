use Rattle.std.proofs.Common.{◌≡◌, ◌<◌, ℕ, get_or, length, take}
use Rattle.text_plans.specs.Keeping.{kept_up_to}
use Rattle.text_plans.specs.Search.{begin_least, no_rest}
use Rattle.text_plans.proofs.Lists.{switch_over}
use Rattle.text_plans.proofs.row.listed_begins.Given as goal

abbrev pub invariant-loop-at : goal.invariant-loop-at
invariant-loop-at l =
    (length l.weights ≡ 17)
    × ((j : ℕ) → j < l.at →
    get_or l.weights (get_or (kept_up_to l.rules.kept 15) j 0) 0
    ≡ begin_least l.rules l.facts (get_or (kept_up_to l.rules.kept 15) j 0) (get_or l.row (get_or (kept_up_to l.rules.kept 15) j 0) no_rest))
    × (l.switched ≡ switch_over l.rules l.facts l.row (take l.at (kept_up_to l.rules.kept 15)))
