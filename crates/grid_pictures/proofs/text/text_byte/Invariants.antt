-- The pixels so far.
use Rattle.std.proofs.Common.{◌≡◌, ◌*◌}
use Rattle.grid_pictures.specs.Texts.{is_dark_text, text_of}
use Rattle.grid_pictures.proofs.BitmapLemmas.{spelled}
use Rattle.grid_pictures.proofs.text.text_byte.Given as goal

abbrev pub invariant-loop-i : goal.invariant-loop-i
invariant-loop-i l = l.byte ≡ spelled (λ x. is_dark_text (text_of l.text) x l.row) (8 * l.place) l.i
