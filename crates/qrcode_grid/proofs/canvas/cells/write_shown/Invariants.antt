-- The colours before this one are written.
use Rattle.qrcode_grid.proofs.Prelude.{◌≡◌, map, take, color_of_module}
use Rattle.qrcode_grid.proofs.canvas.cells.write_shown.Given as goal

abbrev pub invariant-loop-k : goal.invariant-loop-k
invariant-loop-k l = take l.k l.colors ≡ map color_of_module (take l.k l.cells)
