-- Ten bits for three characters exceed the capacity, or there are more characters than fit any version.
use Rattle.std.proofs.Common.{ℕ, ◌*◌, ◌+◌, ◌≤◌, length, subst}
use Rattle.std.specs.Prelude.{◌/◌}
use Rattle.smallest_symbols.proofs.Slices.{dense_too_long, far_too_long}
use Rattle.smallest_symbols.proofs.text_cuts.first_too_long.Goals as goal

pub returns-clause-too_long : goal.returns-clause-too_long
returns-clause-too_long c manner text long =
    far_too_long c.args.level c.args.limit ((c.capacity_of.result / 10 + 1) * 3)
    (dense_too_long c.args.level c.args.limit c.capacity_of.result c.capacity_of.ensures) manner text
    (subst (λ (n : ℕ). n ≤ length text) c.min.ensures long)
