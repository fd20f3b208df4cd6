use Rattle.qrcode_grid.proofs.Prelude.{arith}
use Rattle.qrcode_grid.proofs.MarkedLanes.{shifted_one, bits_in_mask, bit_count_le}
use Rattle.qrcode_grid.proofs.canvas.scoring.counting.count_bit.Goals as goal

pub returns-clause-is : goal.returns-clause-is
returns-clause-is c = bits_in_mask c.args.m c.args.lanes c.requires.lanes _ (shifted_one c.args.m c.requires.bit)

pub returns-clause-small : goal.returns-clause-small
returns-clause-small c = omega (
  arith,
  bits_in_mask c.args.m c.args.lanes c.requires.lanes _ (shifted_one c.args.m c.requires.bit),
  bit_count_le c.args.m c.args.lanes,
)
