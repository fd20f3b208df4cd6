-- The modules before the cell are drawn.
use Rattle.qrcode_grid.proofs.Prelude.{◌+◌, ◌*◌, drawn_over, version_copies}
use Rattle.qrcode_grid.proofs.WrittenWords.{CellsChanged}
use Rattle.qrcode_grid.proofs.canvas.drawing.draw_version_words.Given as goal

abbrev pub invariant-loop-y : goal.invariant-loop-y
invariant-loop-y l = CellsChanged (λ x y m. drawn_over (version_copies l.fn.n x y) m) l.width l.fn.modules l.modules (l.y * l.width)

abbrev pub invariant-loop-x : goal.invariant-loop-x
invariant-loop-x l = CellsChanged (λ x y m. drawn_over (version_copies l.fn.n x y) m) l.width l.fn.modules l.modules (l.y * l.width + l.x)

abbrev pub invariant-loop-row : goal.invariant-loop-row
invariant-loop-row l = CellsChanged (λ x y m. drawn_over (version_copies l.fn.n x y) m) l.width l.fn.modules l.modules (l.row * l.width)

abbrev pub invariant-loop-column : goal.invariant-loop-column
invariant-loop-column l = CellsChanged (λ x y m. drawn_over (version_copies l.fn.n x y) m) l.width l.fn.modules l.modules (l.row * l.width + l.column)
