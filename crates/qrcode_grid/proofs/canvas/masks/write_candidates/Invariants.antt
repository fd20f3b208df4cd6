-- The digits before this one are found, and of this one those of the words before this one, and
-- no others.
use Rattle.qrcode_grid.proofs.Prelude.{◌≡◌, ◌<◌, ◌≤◌, ℕ, get_or, length, bit_at, byte_of, digit_color}
use Rattle.qrcode_grid.proofs.canvas.masks.write_candidates.Given as goal

abbrev pub invariant-loop-k : goal.invariant-loop-k
invariant-loop-k l = record {
  size : length l.digits ≡ 15;
  found : (m i : ℕ) → m < 8 → i < l.k → bit_at (get_or l.digits i 0) m ≡ byte_of (digit_color (bit_at (get_or l.words m 0) i));
}

abbrev pub invariant-loop-m : goal.invariant-loop-m
invariant-loop-m l = record {
  found : (i : ℕ) → i < l.m → bit_at l.byte i ≡ byte_of (digit_color (bit_at (get_or l.words i 0) l.k));
  none : (i : ℕ) → l.m ≤ i → bit_at l.byte i ≡ 0;
}
