use Rattle.qrcode_grid.proofs.Prelude.{◌≤◌, ◌<◌, ℕ, get_or}
use Rattle.qrcode_grid.proofs.canvas.Canvas.best.Given as goal

-- the first least of those that were seen
abbrev pub invariant-loop-i : goal.invariant-loop-i
invariant-loop-i l =
    record {
      seen : (l.best < l.i);
      least : (k : ℕ) → k < l.i → get_or l.values.items l.best 0 ≤ get_or l.values.items k 0;
      first : (k : ℕ) → k < l.best → get_or l.values.items l.best 0 < get_or l.values.items k 0;
    }
