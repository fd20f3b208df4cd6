-- The law of documents that are written.
use Rattle.qrcode_render.proofs.PdfLemmas.{writes_document}
use Rattle.qrcode_render.proofs.laws.writes_document.Goals as goal

pub returns : goal.returns
returns c = writes_document
