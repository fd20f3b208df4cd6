-- The penalties of the candidates before this one are found, and the light modules before this
-- place are counted.
use Rattle.qrcode_grid.proofs.Prelude.{◌≡◌, ◌<◌, ◌≤◌, ◌-◌, ◌==◌, ℕ, length, get_or, count_by, drop, take, row, column, plane}
use Rattle.qrcode_grid.specs.Penalty.{micro_penalty}
use Rattle.qrcode_grid.proofs.canvas.scoring.penalties_of_micro.Given as goal

abbrev pub invariant-loop-m : goal.invariant-loop-m
invariant-loop-m l = record {
  size : length l.penalties ≡ 8;
  found : (k : ℕ) → k < l.m → get_or l.penalties k 0 ≡ micro_penalty l.width (plane k l.grid);
}

abbrev pub invariant-loop-k : goal.invariant-loop-k
invariant-loop-k l = record {
  row : l.h ≡ count_by (λ b. b == 0) (drop 1 (take l.k (row l.width (plane l.m l.grid) (l.width - 1))));
  column : l.v ≡ count_by (λ b. b == 0) (drop 1 (take l.k (column l.width (plane l.m l.grid) (l.width - 1))));
  few : l.h ≤ l.k;
  low : l.v ≤ l.k;
}
