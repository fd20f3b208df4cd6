-- The digits of the rows so far were added, and those that are held are of the next row, if that is
-- in the same row of modules.
use Rattle.std.proofs.Common.{◌≡◌, ◌≢◌, ◌-◌, ◌*◌, ◌%◌, ◌++◌, length}
use Rattle.std.specs.Prelude.{flat_map}
use Rattle.grid_pictures.specs.{Bitmaps.bitmap_row, Bitmaps.row_length, Bitmaps.rows_from, Picture.shown}
use Rattle.qrcode_render.specs.Zpl.{hex_pair}
use Rattle.qrcode_render.proofs.zpl.push_digits.Given as goal

abbrev pub invariant-loop-y : goal.invariant-loop-y
invariant-loop-y l = record {
  added : l.bytes.items ≡ l.initial.bytes.items ++ flat_map hex_pair (rows_from (shown l.picture) l.first (l.y - l.first));
  long : length l.line.items ≡ row_length (shown l.picture);
  twice : length l.digits.items ≡ 2 * row_length (shown l.picture);
  digits : l.y ≢ l.first → l.y % l.scale ≢ 0 → l.digits.items ≡ flat_map hex_pair (bitmap_row (shown l.picture) l.y);
}
