-- The lines so far were added.
use Rattle.std.proofs.Common.{◌≡◌, ◌++◌, map}
use Rattle.std.specs.String.{string_bytes}
use Rattle.qrcode_render.specs.Captions.{first_lines}
use Rattle.qrcode_render.specs.CaptionTypes.{block_of}
use Rattle.qrcode_render.specs.Svg.{caption_element}
use Rattle.qrcode_render.proofs.svg.push_caption.Given as goal

abbrev pub invariant-loop-n : goal.invariant-loop-n
invariant-loop-n l =
    string_bytes l.text ≡ string_bytes l.initial.text
    ++ first_lines (caption_element (block_of l.caption) l.fn.dark l.rows) (map string_bytes l.lines) l.n
