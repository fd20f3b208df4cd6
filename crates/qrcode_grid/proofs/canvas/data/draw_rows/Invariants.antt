-- The cells of the rows before this one have taken their bits.
use Rattle.qrcode_grid.proofs.Prelude.{◌≤◌, bits_from, FillsRows}
use Rattle.qrcode_grid.proofs.canvas.data.draw_rows.Given as goal

abbrev pub invariant-loop-row : goal.invariant-loop-row
invariant-loop-row l = record {
  fills : FillsRows l.columns l.first l.row (bits_from l.streams l.fn.bits) (bits_from l.streams l.ahead) l.fn.modules l.modules;
  small : l.ahead.left ≤ 8;
}
