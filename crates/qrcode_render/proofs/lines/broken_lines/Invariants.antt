-- The lines so far.
use Rattle.std.proofs.Common.{◌≡◌, map}
use Rattle.std.specs.Prelude.{fold}
use Rattle.std.specs.String.{string_bytes}
use Rattle.qrcode_render.specs.Captions.{breaks_of, next_character, no_lines}
use Rattle.qrcode_render.proofs.lines.broken_lines.Given as goal

abbrev pub invariant-loop-c : goal.invariant-loop-c
invariant-loop-c l =
    breaks_of (map string_bytes l.lines.items) (string_bytes l.line) ≡ fold (next_character l.most) no_lines l.yielded
