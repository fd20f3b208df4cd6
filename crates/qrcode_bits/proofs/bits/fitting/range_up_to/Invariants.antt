-- Up to a place units fit; from another one on they fit no version before the candidates left. No
-- units end between the two.
use Rattle.qrcode_bits.proofs.Prelude.{◌≡◌, ℕ, ◌<◌, drop, parsed, IsUnitEnd}
use Rattle.qrcode_bits.proofs.Fitting.{IsRange}
use Rattle.qrcode_bits.proofs.bits.fitting.range_up_to.Given as goal

abbrev pub invariant-loop-last : goal.invariant-loop-last
invariant-loop-last l = record {
  range : IsRange l.ahead l.bytes l.level l.limit l.sure l.past (drop l.last-index l.last-items);
  close : (q : ℕ) → IsUnitEnd l.bytes q → l.sure < q → q < l.past → ⊥;
  same : l.segments ≡ parsed l.bytes;
}
