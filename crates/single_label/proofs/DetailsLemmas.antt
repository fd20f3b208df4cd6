-- The segments of a content.
use Rattle.std.proofs.Common.{◌≡◌, ℕ, List, map, refl}
use Rattle.qrcode_bits.specs.Contents.{parsed_byte, parsed_bytes}
use Rattle.qrcode_bits.specs.declared.bits.front.Content.{Content as FrontContent}
use Rattle.qrcode_bits.specs.declared.bits.front.Content.TheVariants.{Bytes as BytesFront, Text as TextFront, Elements as ElementsFront}

-- data that are no plain bytes are parsed byte by byte
pub parsed_each : (front : FrontContent) (bytes : List ℕ) → (front ≡ BytesFront → ⊥) → map (parsed_byte front) bytes ≡ parsed_bytes front bytes
parsed_each BytesFront bytes other = absurd (other refl)
parsed_each TextFront bytes other = refl
parsed_each ElementsFront bytes other = refl
