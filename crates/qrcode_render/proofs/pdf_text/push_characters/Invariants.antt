-- The characters so far were added.
use Rattle.std.proofs.Common.{◌≡◌, ◌++◌}
use Rattle.std.specs.String.{string_bytes}
use Rattle.qrcode_render.specs.Pdf.{utf16_text}
use Rattle.qrcode_render.proofs.pdf_text.push_characters.Given as goal

abbrev pub invariant-loop-c : goal.invariant-loop-c
invariant-loop-c l = string_bytes l.out ≡ string_bytes l.initial.out ++ utf16_text l.yielded
