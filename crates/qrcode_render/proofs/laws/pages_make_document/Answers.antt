-- The law of documents.
use Rattle.qrcode_render.proofs.PdfLemmas.{pages_make_document}
use Rattle.qrcode_render.proofs.laws.pages_make_document.Goals as goal

pub returns : goal.returns
returns c = pages_make_document
