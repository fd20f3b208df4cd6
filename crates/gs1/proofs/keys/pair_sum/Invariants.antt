use Rattle.std.proofs.Common.{◌≡◌, ◌≤◌, ◌+◌, ◌*◌, drop}
use Rattle.gs1.specs.Keys.{pair_sum}
use Rattle.gs1.proofs.keys.pair_sum.Given as goal

abbrev pub invariant-loop-place : goal.invariant-loop-place
invariant-loop-place l =
    (l.sum + pair_sum (drop l.place l.characters) ≡ pair_sum l.characters) × (l.sum ≤ 65025 * l.place)
