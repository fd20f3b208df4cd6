use Rattle.qrcode_grid.proofs.Prelude.{arith, common_steps}
use Rattle.qrcode_grid.proofs.WrittenWords.{first_lent}
use Rattle.qrcode_grid.proofs.canvas.Canvas.new.Goals as goal

pub returns-clause-is : goal.returns-clause-is
returns-clause-is c = grind (arith, common_steps, first_lent)
