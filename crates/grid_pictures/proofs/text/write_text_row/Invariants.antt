-- The bytes so far.
use Rattle.std.proofs.Common.{◌≡◌, map, take}
use Rattle.std.specs.List.{range_with_len}
use Rattle.grid_pictures.specs.Texts.{text_byte, text_of}
use Rattle.grid_pictures.proofs.text.write_text_row.Given as goal

abbrev pub invariant-loop-place : goal.invariant-loop-place
invariant-loop-place l = take l.place l.line ≡ map (text_byte (text_of l.text) l.row) (range_with_len 0 l.place)
