-- A separator stands between two elements; any other byte is a character.
use Rattle.qrcode_bits.proofs.{Prelude.arith, Contents.not_character}
use Rattle.qrcode_bits.proofs.bits.front.is_element_byte.Goals as goal

pub returns-then-place-bytes : goal.returns-then-place-bytes
returns-then-place-bytes c = grind (arith, not_character)

pub returns-else-place-bytes : goal.returns-else-place-bytes
returns-else-place-bytes c = grind (arith, not_character)
