-- The canvas keeps its version.
use Rattle.std.proofs.Common.{◌≡◌}
use Rattle.grid_tests.proofs.canvas_tests.scores.paint.Given as goal

abbrev pub invariant-loop-y : goal.invariant-loop-y
invariant-loop-y l = l.canvas.version ≡ l.fn.version

abbrev pub invariant-loop-x : goal.invariant-loop-x
invariant-loop-x l = l.canvas.version ≡ l.fn.version
