-- The places before this one are written.
use Rattle.qrcode_grid.proofs.Prelude.{◌≡◌, ◌<◌, ℕ, get_or, bit_at, Light, byte_of}
use Rattle.qrcode_grid.proofs.canvas.scoring.write_colors.Given as goal

abbrev pub invariant-loop-k : goal.invariant-loop-k
invariant-loop-k l = (k : ℕ) → k < l.k → byte_of (get_or l.colors k Light) ≡ bit_at (get_or l.grid k 0) l.m
