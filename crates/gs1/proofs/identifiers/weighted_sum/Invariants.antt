use Rattle.std.proofs.Common.{◌≡◌, ◌≤◌, ◌+◌, ◌*◌, drop}
use Rattle.gs1.specs.Identifiers.{weighted_sum}
use Rattle.gs1.proofs.identifiers.weighted_sum.Given as goal

abbrev pub invariant-loop-place : goal.invariant-loop-place
invariant-loop-place l =
    (l.sum + weighted_sum (drop l.place l.digits) ≡ weighted_sum l.digits) × (l.sum ≤ 765 * l.place)
