-- The rows so far.
use Rattle.std.proofs.Common.{◌≡◌, ◌*◌, length}
use Rattle.grid_pictures.specs.{Bitmaps.row_length, Picture.shown}
use Rattle.qrcode_render.specs.CompressedData.{AddsPiece}
use Rattle.qrcode_render.proofs.FieldLemmas.{SaysField}
use Rattle.qrcode_render.proofs.compressed.push_data.Given as goal

abbrev pub invariant-loop-y : goal.invariant-loop-y
invariant-loop-y l = record {
  added : AddsPiece (SaysField (shown l.picture) l.first l.y) l.initial.bytes.items l.bytes.items;
  long : length l.line.items ≡ row_length (shown l.picture);
  twice : length l.digits.items ≡ 2 * row_length (shown l.picture);
}
