-- The bytes before this one were parsed.
use Rattle.std.proofs.Common.{◌≡◌, map, take}
use Rattle.qrcode_bits.specs.Contents.{parsed_byte}
use Rattle.qrcode_bits.specs.declared.bits.front.Content.TheVariants.{Text}
use Rattle.smallest_symbols.proofs.byte_parsing.parsed_bytes.Given as goal

abbrev pub invariant-loop-byte : goal.invariant-loop-byte
invariant-loop-byte l = l.parsed.items ≡ map (parsed_byte Text) (take l.byte-index l.bytes)
