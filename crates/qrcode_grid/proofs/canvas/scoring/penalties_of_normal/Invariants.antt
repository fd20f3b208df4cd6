-- The penalties of the candidates before this one are found.
use Rattle.qrcode_grid.proofs.Prelude.{◌≡◌, ◌<◌, ◌+◌, ◌*◌, ◌/◌, ℕ, get_or, length, abs_diff}
use Rattle.qrcode_grid.proofs.canvas.scoring.penalties_of_normal.Given as goal

abbrev pub invariant-loop-m : goal.invariant-loop-m
invariant-loop-m l = record {
  size : length l.penalties ≡ 8;
  found :
      (k : ℕ) → k < l.m → get_or l.penalties k 0 ≡ get_or l.rows k 0 + get_or l.columns k 0 + 3 * get_or l.squares k 0 + abs_diff
      (200 * get_or l.darks k 0 / (l.width * l.width)) 100;
}
