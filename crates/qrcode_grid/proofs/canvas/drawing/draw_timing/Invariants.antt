-- The modules before the cell are drawn.
use Rattle.qrcode_grid.proofs.Prelude.{◌+◌, ◌*◌, drawn_over, timing}
use Rattle.qrcode_grid.proofs.WrittenWords.{CellsChanged}
use Rattle.qrcode_grid.proofs.canvas.drawing.draw_timing.Given as goal

abbrev pub invariant-loop-x : goal.invariant-loop-x
invariant-loop-x l = CellsChanged (λ x y m. drawn_over (timing l.fn.line l.fn.from l.fn.to x y) m) l.width l.fn.modules l.modules (l.line * l.width + l.x)

abbrev pub invariant-loop-y : goal.invariant-loop-y
invariant-loop-y l = CellsChanged (λ x y m. drawn_over (timing l.fn.line l.fn.from l.fn.to x y) m) l.width l.fn.modules l.modules (l.y * l.width)
