-- No module so far is dark.
use Rattle.std.proofs.Common.{◌≡◌, ℕ, ◌+◌, ◌<◌, false}
use Rattle.grid_pictures.specs.Rows.{is_dark_at}
use Rattle.grid_pictures.proofs.picture.Row.first_dark.Given as goal

abbrev pub invariant-loop-i : goal.invariant-loop-i
invariant-loop-i l = (column : ℕ) → column < l.quiet + l.i → is_dark_at l.self column ≡ false
