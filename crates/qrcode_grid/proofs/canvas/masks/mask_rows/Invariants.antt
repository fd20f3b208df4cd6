-- The rows of the parts before this one are written.
use Rattle.qrcode_grid.proofs.Prelude.{◌≡◌, ◌<◌, ◌+◌, ◌*◌, ◌%◌, ◌==◌, ℕ, map, get_or, bit_at, code_of, masked_code}
use Rattle.qrcode_grid.proofs.canvas.masks.mask_rows.Given as goal

abbrev pub invariant-loop-part : goal.invariant-loop-part
invariant-loop-part l = (m x y : ℕ) → m < 8 → x < l.width → y < 12 * l.part → y < l.width →
    bit_at (get_or l.grid (y * l.width + x) 0) m ≡ masked_code (get_or (map code_of l.modules) (y * l.width + x) 0)
    (bit_at (get_or l.stripes (y % 12 * l.width + x) 0) m == 1)
