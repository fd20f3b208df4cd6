-- The lines so far were added.
use Rattle.std.proofs.Common.{◌≡◌, ◌++◌, map}
use Rattle.std.specs.String.{string_bytes}
use Rattle.qrcode_render.specs.Captions.{first_lines}
use Rattle.qrcode_render.specs.CaptionTypes.{block_of}
use Rattle.qrcode_render.specs.Pdf.{pdf_line}
use Rattle.qrcode_render.proofs.pdf_caption.push_lines.Given as goal

abbrev pub invariant-loop-n : goal.invariant-loop-n
invariant-loop-n l =
    string_bytes l.content ≡ string_bytes l.initial.content
    ++ first_lines (pdf_line (block_of l.caption) l.columns l.rows) (map string_bytes l.lines) l.n
