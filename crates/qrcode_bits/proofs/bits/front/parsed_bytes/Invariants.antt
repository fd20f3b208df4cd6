-- The bytes before this one were parsed.
use Rattle.qrcode_bits.proofs.Prelude.{◌≡◌, map, take, parsed_byte}
use Rattle.qrcode_bits.proofs.bits.front.parsed_bytes.Given as goal

abbrev pub invariant-loop-byte : goal.invariant-loop-byte
invariant-loop-byte l = l.parsed.items ≡ map (parsed_byte l.content) (take l.byte-index l.bytes)
