-- Whether the rows before this one are empty.
use Rattle.qrcode_grid.proofs.Prelude.{◌<◌, ◌+◌, ℕ, IsTrue, row_place, IsEmptyRow}
use Rattle.std.specs.Prelude.{◌↔◌}
use Rattle.qrcode_grid.proofs.canvas.data.are_empty.Given as goal

abbrev pub invariant-loop-i : goal.invariant-loop-i
invariant-loop-i l = IsTrue l.empty ↔ ((i : ℕ) → i < l.i → IsEmptyRow l.modules (row_place l.columns (l.first + i)))
