-- The entries so far were added.
use Rattle.std.proofs.Common.{◌≡◌, ◌++◌, flat_map, take}
use Rattle.qrcode_render.specs.PdfFile.{table_entry}
use Rattle.qrcode_render.proofs.pdf_text.push_entries.Given as goal

abbrev pub invariant-loop-i : goal.invariant-loop-i
invariant-loop-i l = l.bytes.items ≡ l.initial.bytes.items ++ flat_map table_entry (take l.i l.offsets)
