-- The law of tables.
use Rattle.qrcode_render.proofs.PdfTableLemmas.{entries_find_objects}
use Rattle.qrcode_render.proofs.laws.entries_find_objects.Goals as goal

pub returns : goal.returns
returns c = entries_find_objects
