-- The cells of the rows before this part have taken their bits.
use Rattle.qrcode_grid.proofs.Prelude.{◌*◌, ◌≤◌, bits_from, FillsRows}
use Rattle.qrcode_grid.proofs.canvas.data.draw_pair.Given as goal

abbrev pub invariant-loop-part : goal.invariant-loop-part
invariant-loop-part l = record {
  fills : FillsRows l.columns 0 (4 * l.part) (bits_from l.streams l.fn.bits) (bits_from l.streams l.ahead) l.fn.modules l.modules;
  small : l.ahead.left ≤ 8;
}
