-- The penalties of the candidates before this one are found.
use Rattle.qrcode_grid.proofs.Prelude.{◌≡◌, ◌<◌, ◌≤◌, ◌+◌, ◌*◌, ℕ, get_or, length}
use Rattle.qrcode_grid.proofs.canvas.scoring.penalties_of_lines.Given as goal

abbrev pub invariant-loop-m : goal.invariant-loop-m
invariant-loop-m g l = record {
  size : length l.penalties ≡ 8;
  found : (k : ℕ) → k < l.m → get_or l.penalties k 0 + 2 * get_or l.sixes k 0 ≡ 3 * get_or l.fives k 0 + 40 * get_or l.finders k 0;
  small : (k : ℕ) → k < l.m → get_or l.penalties k 0 ≤ 2000000;
}
