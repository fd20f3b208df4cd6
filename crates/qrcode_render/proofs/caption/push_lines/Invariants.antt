-- The lines so far were added.
use Rattle.std.proofs.Common.{◌≡◌, ◌++◌, map}
use Rattle.std.specs.String.{string_bytes}
use Rattle.qrcode_render.specs.Captions.{first_lines, terminal_caption_line}
use Rattle.qrcode_render.proofs.caption.push_lines.Given as goal

abbrev pub invariant-loop-n : goal.invariant-loop-n
invariant-loop-n l =
    string_bytes l.text ≡ string_bytes l.initial.text ++ first_lines terminal_caption_line (map string_bytes l.lines) l.n
