-- The sums of the bits before this one have grown.
use Rattle.qrcode_grid.proofs.Prelude.{◌≡◌, ◌<◌, ◌≤◌, ◌+◌, ℕ, get_or, length, bit_count}
use Rattle.qrcode_grid.proofs.canvas.scoring.counting.add_rows.Given as goal

abbrev pub invariant-loop-m : goal.invariant-loop-m
invariant-loop-m l = record {
  size : length l.sums ≡ 8;
  grown : (k : ℕ) → k < l.m → get_or l.sums k 0 ≡ get_or l.fn.tally.sums k 0 + bit_count k l.sixteens;
  same : (k : ℕ) → l.m ≤ k → get_or l.sums k 0 ≡ get_or l.fn.tally.sums k 0;
}
