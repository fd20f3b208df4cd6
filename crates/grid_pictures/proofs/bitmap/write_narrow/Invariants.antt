-- The bytes so far are the first of the row.
use Rattle.std.proofs.Common.{◌≡◌, ◌+◌, ◌*◌, length, take, map}
use Rattle.std.specs.Prelude.{min}
use Rattle.std.specs.List.{range_with_len}
use Rattle.grid_pictures.specs.{Bitmaps.pixel_byte, Picture.shown}
use Rattle.grid_pictures.proofs.bitmap.write_narrow.Given as goal

abbrev pub invariant-loop-group : goal.invariant-loop-group
invariant-loop-group l = record {
  long : length l.bytes ≡ 216;
  written : take (l.group * l.scale) l.bytes ≡ map (pixel_byte (shown l.picture) l.y) (range_with_len 0 (l.group * l.scale));
}

abbrev pub invariant-loop-i : goal.invariant-loop-i
invariant-loop-i l = record {
  long : length l.bytes ≡ 216;
  written : take (l.first + min l.i l.scale) l.bytes
      ≡ map (pixel_byte (shown l.picture) l.y) (range_with_len 0 (l.first + min l.i l.scale));
}
