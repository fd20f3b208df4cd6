-- The bits before these are in the rows before this one.
use Rattle.qrcode_grid.proofs.Prelude.{List, Bool, ◌-◌, ◌*◌, ◌++◌, number_bits, FillsRows}
use Rattle.qrcode_grid.proofs.canvas.data.draw_eight.Given as goal

abbrev pub invariant-loop-i : goal.invariant-loop-i
invariant-loop-i l = (after : List Bool) → FillsRows l.columns l.first l.i (number_bits 8 l.eight ++ after) (number_bits (8 - 2 * l.i) l.eight
    ++ after) l.fn.modules l.modules
