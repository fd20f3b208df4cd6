-- One field more.
use Rattle.std.proofs.Common.{◌+◌}
use Rattle.std.specs.Prelude.{codes}
use Rattle.grid_pictures.specs.Picture.{shown}
use Rattle.qrcode_render.specs.{CompressedData.ArePieces, Labels.IsCompressedField}
use Rattle.qrcode_render.proofs.FieldLemmas.{one_piece}
use Rattle.qrcode_render.proofs.ReadingLemmas.{adds_both}
use Rattle.qrcode_render.proofs.zpl.compressed_captioned.Goals as goal

pub loop-n-preserved : goal.loop-n-preserved
loop-n-preserved c =
    let Field = IsCompressedField (shown c.args.picture.now) c.args.at in
    let n = c.loop-n.n in
    adds_both (ArePieces Field n) (Field n) (ArePieces Field (n + 1)) (codes "^XA\n") c.loop-n.bytes.items c.push_compressed_field.new.bytes.items
    c.loop-n.invariant c.in_ok-push_compressed_field.ensures (one_piece Field n)
