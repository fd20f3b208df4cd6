-- The lines so far were added.
use Rattle.std.proofs.Common.{◌≡◌, ◌++◌, map}
use Rattle.std.specs.String.{string_bytes}
use Rattle.qrcode_render.specs.Captions.{first_lines}
use Rattle.qrcode_render.specs.CaptionTypes.{block_of}
use Rattle.qrcode_render.specs.Eps.{eps_line}
use Rattle.qrcode_render.proofs.eps.push_caption.Given as goal

abbrev pub invariant-loop-n : goal.invariant-loop-n
invariant-loop-n l =
    string_bytes l.text ≡ string_bytes l.initial.text
    ++ first_lines (eps_line (block_of l.caption) l.columns l.rows) (map string_bytes l.lines) l.n
