use Rattle.qrcode_grid.proofs.Prelude.{arith, common_steps}
use Rattle.qrcode_grid.proofs.MarkedLanes.{marks_light, marks_as}
use Rattle.qrcode_grid.proofs.canvas.scoring.lists.light.Goals as goal

pub returns : goal.returns
returns c = grind (arith, common_steps, marks_as, marks_light)
