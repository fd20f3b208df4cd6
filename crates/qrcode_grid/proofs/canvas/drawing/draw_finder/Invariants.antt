-- The modules before the cell are drawn.
use Rattle.qrcode_grid.proofs.Prelude.{◌+◌, ◌*◌, drawn_over, finder}
use Rattle.qrcode_grid.proofs.WrittenWords.{CellsChanged}
use Rattle.qrcode_grid.proofs.canvas.drawing.draw_finder.Given as goal

abbrev pub invariant-loop-y : goal.invariant-loop-y
invariant-loop-y l = CellsChanged (λ x y m. drawn_over (finder l.fn.center_x l.fn.center_y x y) m) l.width l.fn.modules l.modules (l.y * l.width)

abbrev pub invariant-loop-x : goal.invariant-loop-x
invariant-loop-x l = CellsChanged (λ x y m. drawn_over (finder l.fn.center_x l.fn.center_y x y) m) l.width l.fn.modules l.modules (l.y * l.width + l.x)
