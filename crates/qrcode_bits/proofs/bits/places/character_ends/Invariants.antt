-- The places before this one were found.
use Rattle.qrcode_bits.proofs.Prelude.{Text, ArePlacesBefore}
use Rattle.qrcode_bits.proofs.bits.places.character_ends.Given as goal

abbrev pub invariant-loop-at : goal.invariant-loop-at
invariant-loop-at l = ArePlacesBefore l.at Text l.text l.places.items
