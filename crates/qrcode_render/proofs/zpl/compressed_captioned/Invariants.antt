-- The fields so far.
use Rattle.std.specs.Prelude.{codes}
use Rattle.grid_pictures.specs.Picture.{shown}
use Rattle.qrcode_render.specs.{CompressedData.AddsPiece, CompressedData.ArePieces, Labels.IsCompressedField}
use Rattle.qrcode_render.proofs.zpl.compressed_captioned.Given as goal

abbrev pub invariant-loop-n : goal.invariant-loop-n
invariant-loop-n l = AddsPiece (ArePieces (IsCompressedField (shown l.picture) l.at) l.n) (codes "^XA\n") l.bytes.items
