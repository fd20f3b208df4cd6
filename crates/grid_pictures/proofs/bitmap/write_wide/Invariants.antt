-- The bytes so far are the first of the row, and some pixels of the module at the column are left.
use Rattle.std.proofs.Common.{◌≡◌, ◌+◌, ◌*◌, ◌≤◌, take, map}
use Rattle.std.specs.List.{range_with_len}
use Rattle.grid_pictures.specs.{Bitmaps.pixel_byte, Picture.shown}
use Rattle.grid_pictures.proofs.bitmap.write_wide.Given as goal

abbrev pub invariant-loop-place : goal.invariant-loop-place
invariant-loop-place l = record {
  front : take l.place l.line ≡ map (pixel_byte (shown l.picture) l.y) (range_with_len 0 l.place);
  edge : (l.column + 1) * l.scale ≡ 8 * l.place + l.left;
  within : l.left ≤ l.scale;
}
