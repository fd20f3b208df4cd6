-- The law of texts below a picture.
use Rattle.qrcode_render.proofs.CaptionLemmas.{fields_are_read}
use Rattle.qrcode_render.proofs.laws.fields_are_read.Goals as goal

pub returns : goal.returns
returns c = fields_are_read
