-- The digits before this one are found.
use Rattle.qrcode_grid.proofs.Prelude.{◌≡◌, ◌<◌, ℕ, get_or, length, bit_at, digit_color, Empty, Masked}
use Rattle.qrcode_grid.proofs.canvas.drawing.draw_format.Given as goal

abbrev pub invariant-loop-k : goal.invariant-loop-k
invariant-loop-k l = record {
  size : length l.digits ≡ 15;
  found : (i : ℕ) → i < l.k → get_or l.digits i Empty ≡ Masked (digit_color (bit_at l.format i));
}
