-- The modules before the cell are drawn; between two centres, those before the cells of the
-- next one.
use Rattle.qrcode_grid.proofs.Prelude.{◌+◌, ◌*◌, drawn_over, alignments, alignment_coordinates}
use Rattle.qrcode_grid.proofs.{RegionRows.behind, WrittenWords.CellsChanged}
use Rattle.qrcode_grid.proofs.canvas.drawing.draw_alignments.Given as goal

abbrev pub invariant-loop-j : goal.invariant-loop-j
invariant-loop-j l = CellsChanged (λ x y m. drawn_over (alignments l.fn.width (alignment_coordinates l.fn.n) x y) m) l.width l.fn.modules l.modules
    (behind l.fn.n l.j * l.width)

abbrev pub invariant-loop-y : goal.invariant-loop-y
invariant-loop-y l = CellsChanged (λ x y m. drawn_over (alignments l.fn.width (alignment_coordinates l.fn.n) x y) m) l.width
    l.fn.modules l.modules (l.y * l.width)

abbrev pub invariant-loop-k : goal.invariant-loop-k
invariant-loop-k l = CellsChanged (λ x y m. drawn_over (alignments l.fn.width (alignment_coordinates l.fn.n) x y) m) l.width l.fn.modules l.modules
    (l.y * l.width + behind l.fn.n l.k)

abbrev pub invariant-loop-x : goal.invariant-loop-x
invariant-loop-x l = CellsChanged (λ x y m. drawn_over (alignments l.fn.width (alignment_coordinates l.fn.n) x y) m) l.width l.fn.modules
    l.modules (l.y * l.width + l.x)
