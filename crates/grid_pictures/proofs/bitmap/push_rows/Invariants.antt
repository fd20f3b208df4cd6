-- The rows of pixels so far were added.
use Rattle.std.proofs.Common.{◌≡◌, ◌+◌, ◌*◌, ◌++◌, length}
use Rattle.grid_pictures.specs.{Bitmaps.first_rows, Bitmaps.row_length, Picture.shown}
use Rattle.grid_pictures.proofs.bitmap.push_rows.Given as goal

abbrev pub invariant-loop-row : goal.invariant-loop-row
invariant-loop-row l = record {
  added : l.bytes.items ≡ l.initial.bytes.items ++ first_rows (shown l.picture) (l.row * l.scale);
  long : length l.line.items ≡ row_length (shown l.picture);
}

abbrev pub invariant-loop-copy : goal.invariant-loop-copy
invariant-loop-copy l = l.bytes.items ≡ l.fn.bytes.items ++ first_rows (shown l.picture) (l.row * l.scale + l.copy)
