-- The characters so far were added.
use Rattle.std.proofs.Common.{◌≡◌, flat_map}
use Rattle.std.specs.String.{string_bytes}
use Rattle.qrcode_render.specs.Captions.{character_bytes}
use Rattle.qrcode_render.proofs.lines.one_line.Given as goal

abbrev pub invariant-loop-c : goal.invariant-loop-c
invariant-loop-c l = string_bytes l.line ≡ flat_map character_bytes l.yielded
