-- The lines so far were added.
use Rattle.std.proofs.Common.{◌≡◌, ◌++◌, map}
use Rattle.std.specs.String.{string_bytes}
use Rattle.qrcode_render.specs.Captions.{first_lines}
use Rattle.qrcode_render.specs.Zpl.{block_line}
use Rattle.qrcode_render.proofs.zpl_text.push_block_lines.Given as goal

abbrev pub invariant-loop-n : goal.invariant-loop-n
invariant-loop-n l =
    l.bytes.items ≡ l.initial.bytes.items ++ first_lines block_line (map string_bytes l.lines) l.n
