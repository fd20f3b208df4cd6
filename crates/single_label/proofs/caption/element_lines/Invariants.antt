-- The characters so far were added.
use Rattle.std.proofs.Common.{◌≡◌, flat_map}
use Rattle.std.specs.String.{string_bytes}
use Rattle.single_label.specs.Captions.{after_newline}
use Rattle.single_label.proofs.caption.element_lines.Given as goal

abbrev pub invariant-loop-c : goal.invariant-loop-c
invariant-loop-c l = string_bytes l.lines ≡ flat_map after_newline l.yielded
