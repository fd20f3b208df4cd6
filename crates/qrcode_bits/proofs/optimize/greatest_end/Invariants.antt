use Rattle.qrcode_bits.proofs.Prelude.{ℕ, ◌<◌, ◌≤◌, segment_at}
use Rattle.qrcode_bits.proofs.optimize.greatest_end.Given as goal

abbrev pub invariant-loop-s : goal.invariant-loop-s
invariant-loop-s l = (i : ℕ) → i < l.s-index → (segment_at l.segments i).end ≤ l.top
