-- All bytes before this place may be bytes of elements.
use Rattle.qrcode_bits.proofs.Prelude.{ℕ, ◌<◌}
use Rattle.qrcode_bits.specs.Contents.{IsElementByte}
use Rattle.qrcode_bits.proofs.bits.front.first_no_element.Given as goal

abbrev pub invariant-loop-place : goal.invariant-loop-place
invariant-loop-place l = (earlier : ℕ) → earlier < l.place → IsElementByte l.bytes earlier
