-- The rows before this one are written, and the cells of this row in the sixes before this one.
use Rattle.qrcode_grid.proofs.Prelude.{◌≡◌, ◌<◌, ◌+◌, ◌*◌, ◌%◌, cond, ℕ, [], get_or, bit_at, is_inverted, pattern_of}
use Rattle.qrcode_grid.specs.declared.canvas.masks.TheConstants.{CONDITIONS}
use Rattle.qrcode_grid.proofs.canvas.masks.write_stripes.Given as goal

abbrev pub invariant-loop-y : goal.invariant-loop-y
invariant-loop-y l = (m x y : ℕ) → m < 8 → x < l.width → y < l.y → bit_at (get_or l.stripes (y * l.width + x) 0) m ≡ cond (is_inverted (pattern_of m) x y) 1 0

abbrev pub invariant-loop-six : goal.invariant-loop-six
invariant-loop-six l = record {
  row : (x : ℕ) → x < 6 * l.six → get_or l.stripes (l.y * l.width + x) 0 ≡ get_or (get_or CONDITIONS l.y []) (x % 6) 0;
  before : (k : ℕ) → k < l.y * l.width → get_or l.stripes k 0 ≡ get_or l.initial.stripes k 0;
}
