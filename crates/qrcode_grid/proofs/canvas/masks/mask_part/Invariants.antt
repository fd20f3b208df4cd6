-- The colours of the places before this one are written, and what comes before them stays.
use Rattle.qrcode_grid.proofs.Prelude.{◌≡◌, ◌<◌, ◌+◌, ◌==◌, ℕ, map, get_or, bit_at, code_of, masked_code}
use Rattle.qrcode_grid.proofs.canvas.masks.mask_part.Given as goal

abbrev pub invariant-loop-k : goal.invariant-loop-k
invariant-loop-k l = record {
  part : (j : ℕ) → j < l.k → (m : ℕ) → m < 8 → bit_at (get_or l.grid (l.from + j) 0) m ≡ masked_code (get_or (map code_of l.modules) (l.from + j) 0)
      (bit_at (get_or l.stripes j 0) m == 1);
  before : (j : ℕ) → j < l.from → get_or l.grid j 0 ≡ get_or l.initial.grid j 0;
}
