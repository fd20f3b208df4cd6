-- The bytes so far are parsed.
use Rattle.std.proofs.Common.{◌≡◌, map, take}
use Rattle.qrcode_bits.specs.Contents.{parsed_byte}
use Rattle.single_label.proofs.details.push_data.Given as goal

abbrev pub invariant-loop-byte : goal.invariant-loop-byte
invariant-loop-byte l = l.parsed.items ≡ map (parsed_byte l.front) (take l.byte-index l.encoded)
