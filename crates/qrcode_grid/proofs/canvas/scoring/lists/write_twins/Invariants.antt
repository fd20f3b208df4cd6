-- The parts before this one are written, and then the ends of the rows before this one are cleared.
use Rattle.qrcode_grid.proofs.Prelude.{◌≡◌, ◌<◌, ◌≤◌, ◌+◌, ◌*◌, cond, ℕ, get_or, bit_at, is_same, plane, stride}
use Rattle.qrcode_grid.proofs.canvas.scoring.lists.write_twins.Given as goal

abbrev pub invariant-loop-part : goal.invariant-loop-part
invariant-loop-part l = record {
  same : (m k : ℕ) → m < 8 → k < 16 * l.part → bit_at (get_or l.twins k 0) m ≡ cond (is_same l.step (plane m l.padded) (4 * stride l.width + k) 0) 1 0;
  after : (k : ℕ) → 16 * l.part ≤ k → get_or l.twins k 0 ≡ get_or l.initial.twins k 0;
}

abbrev pub invariant-loop-y : goal.invariant-loop-y
invariant-loop-y l = record {
  same :
      (m x r : ℕ) → m < 8 → x < l.columns → r < l.rows → bit_at (get_or l.twins (r * stride l.width + x) 0) m
      ≡ cond (is_same l.step (plane m l.padded) (4 * stride l.width + (r * stride l.width + x)) 0) 1 0;
  beside : (x r : ℕ) → l.columns ≤ x → x < stride l.width → r < l.y → get_or l.twins (r * stride l.width + x) 0 ≡ 0;
  below : (k : ℕ) → l.rows * stride l.width ≤ k → get_or l.twins k 0 ≡ 0;
}

abbrev pub invariant-loop-x : goal.invariant-loop-x
invariant-loop-x l = record {
  zeros : (i : ℕ) → l.y * stride l.width + l.columns ≤ i → i < l.y * stride l.width + l.x → get_or l.twins i 0 ≡ 0;
  before : (i : ℕ) → i < l.y * stride l.width + l.columns → get_or l.twins i 0 ≡ get_or l.initial.twins i 0;
  after : (i : ℕ) → l.y * stride l.width + l.x ≤ i → get_or l.twins i 0 ≡ get_or l.initial.twins i 0;
}
