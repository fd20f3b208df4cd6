-- The rows so far were added, and the line is that of the next row, if that is in the same row
-- of modules.
use Rattle.std.proofs.Common.{◌≡◌, ◌≢◌, ◌-◌, ◌%◌, ◌++◌, length}
use Rattle.grid_pictures.specs.{Bitmaps.bitmap_row, Bitmaps.row_length, Bitmaps.rows_from, Picture.shown}
use Rattle.grid_pictures.proofs.bitmap.push_rows_from.Given as goal

abbrev pub invariant-loop-y : goal.invariant-loop-y
invariant-loop-y l = record {
  added : l.bytes.items ≡ l.initial.bytes.items ++ rows_from (shown l.picture) l.first (l.y - l.first);
  long : length l.line.items ≡ row_length (shown l.picture);
  line : l.y ≢ l.first → l.y % l.scale ≢ 0 → l.line.items ≡ bitmap_row (shown l.picture) l.y;
}
