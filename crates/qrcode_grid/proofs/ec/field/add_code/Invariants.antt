-- The lanes are the remainder of the bytes so far.
use Rattle.qrcode_grid.proofs.Prelude.{◌≡◌, ℕ, List, length, take, IsDivisor, AreRows, IsRemainder}
use Rattle.qrcode_grid.proofs.ec.field.add_code.Given as goal

abbrev pub invariant-loop-byte : goal.invariant-loop-byte
invariant-loop-byte l = record {
  size : length l.lanes ≡ 32;
  is : (n : ℕ) (divisor terms : List ℕ) → IsDivisor n divisor → AreRows divisor terms l.low l.high → IsRemainder n divisor (take l.byte-index l.body) l.lanes;
}
