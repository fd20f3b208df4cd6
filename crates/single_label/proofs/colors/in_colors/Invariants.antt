-- The bytes so far are in colors.
use Rattle.std.proofs.Common.{◌≡◌, ◌++◌, take, flat_map}
use Rattle.single_label.specs.Colors.{black_on_white, colored_byte}
use Rattle.single_label.proofs.colors.in_colors.Given as goal

abbrev pub invariant-loop-byte : goal.invariant-loop-byte
invariant-loop-byte l = l.bytes.items ≡ black_on_white ++ flat_map colored_byte (take l.byte-index l.text)
