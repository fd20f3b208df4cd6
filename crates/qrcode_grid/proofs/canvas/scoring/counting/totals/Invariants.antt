-- The totals of the bits before this one are found.
use Rattle.qrcode_grid.proofs.Prelude.{◌≡◌, ◌<◌, ◌+◌, ◌*◌, ℕ, get_or, length, count_in_planes}
use Rattle.qrcode_grid.proofs.canvas.scoring.counting.totals.Given as goal

abbrev pub invariant-loop-m : goal.invariant-loop-m
invariant-loop-m l = record {
  size : length l.result ≡ 8;
  found : (k : ℕ) → k < l.m → get_or l.result k 0 ≡ 16 * get_or l.tally.sums k 0 + count_in_planes k l.planes;
}
