use Rattle.qrcode_grid.proofs.Prelude.{arith, common_steps, take_all, take_more, take_more_set}
use Rattle.qrcode_grid.proofs.canvas.cells.write_shown.Goals as goal

pub loop-k-preserved : goal.loop-k-preserved
loop-k-preserved c = grind (arith, common_steps, take_more, take_more_set)

pub returns : goal.returns
returns c = grind (arith, common_steps, take_all)
