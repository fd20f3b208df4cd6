-- One entry more.
use Rattle.std.proofs.Common.{◌++◌, ◌∙◌, ap, flat_map, get_or, take}
use Rattle.picture_settings.proofs.Ranges.{joined}
use Rattle.qrcode_render.specs.PdfFile.{table_entry}
use Rattle.qrcode_render.proofs.PdfTextLemmas.{entries_more}
use Rattle.qrcode_render.proofs.pdf_text.push_entries.Goals as goal

pub loop-i-preserved : goal.loop-i-preserved
loop-i-preserved c =
    joined c.args.bytes.now.items (flat_map table_entry (take c.loop-i.i c.args.offsets.now)) _ (table_entry (get_or c.args.offsets.now c.loop-i.i 0)) _ _
    (entries_more c.args.offsets.now c.loop-i.i c.loop-i-test.true) c.loop-i.invariant
    (c.in_ok-extend_from_slice.ensures.items ∙ ap (λ l. c.loop-i.bytes.items ++ l) c.table_entry.ensures)
