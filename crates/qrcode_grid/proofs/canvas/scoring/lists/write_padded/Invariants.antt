-- The rows before this one are written.
use Rattle.qrcode_grid.proofs.Prelude.{◌≡◌, ◌<◌, ◌≤◌, ◌+◌, ◌*◌, ℕ, get_or, stride}
use Rattle.qrcode_grid.proofs.canvas.scoring.lists.write_padded.Given as goal

abbrev pub invariant-loop-y : goal.invariant-loop-y
invariant-loop-y l = record {
  grid : (x r : ℕ) → x < l.width → r < l.y → get_or l.padded ((4 + r) * stride l.width + x) 0 ≡ get_or l.grid (r * l.width + x) 0;
  beside : (x r : ℕ) → l.width ≤ x → x < stride l.width → get_or l.padded (r * stride l.width + x) 0 ≡ 0;
  above : (k : ℕ) → k < 4 * stride l.width → get_or l.padded k 0 ≡ 0;
  below : (k : ℕ) → (4 + l.y) * stride l.width ≤ k → get_or l.padded k 0 ≡ 0;
}
