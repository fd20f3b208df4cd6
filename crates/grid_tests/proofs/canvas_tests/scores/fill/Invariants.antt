-- The canvas keeps its version.
use Rattle.std.proofs.Common.{◌≡◌}
use Rattle.grid_tests.proofs.canvas_tests.scores.fill.Given as goal

abbrev pub invariant-loop-i : goal.invariant-loop-i
invariant-loop-i l = l.canvas.version ≡ l.fn.version

abbrev pub invariant-loop-j : goal.invariant-loop-j
invariant-loop-j l = l.canvas.version ≡ l.fn.version
