use Rattle.std.proofs.Common.{◌≡◌, ◌≤◌, length, take}
use Rattle.text_plans.specs.Keeping.{kept_up_to}
use Rattle.text_plans.proofs.keep.listed.Given as goal

abbrev pub invariant-loop-earlier : goal.invariant-loop-earlier
invariant-loop-earlier l =
    (l.count ≤ l.earlier)
    × (length l.lanes ≡ 15)
    × (length (kept_up_to l.kept l.earlier) ≡ l.count)
    × (take l.count l.lanes ≡ kept_up_to l.kept l.earlier)
