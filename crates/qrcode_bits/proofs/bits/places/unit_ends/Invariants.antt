-- The places before this one were found, and it is one.
use Rattle.qrcode_bits.proofs.Prelude.{◌-◌, ◌≤◌, length, Bytes, ArePlacesBefore, IsUnitEnd}
use Rattle.qrcode_bits.proofs.bits.places.unit_ends.Given as goal

abbrev pub invariant-loop-at : goal.invariant-loop-at
invariant-loop-at l = ArePlacesBefore l.at Bytes l.bytes l.places.items × IsUnitEnd l.bytes l.at × (l.at ≤ length l.bytes)

abbrev pub decreases-loop-at : goal.decreases-loop-at
decreases-loop-at l = length l.bytes - l.at
