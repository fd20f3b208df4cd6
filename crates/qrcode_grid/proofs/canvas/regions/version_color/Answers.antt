use Rattle.qrcode_grid.proofs.Prelude.{arith, common_steps}
use Rattle.qrcode_grid.proofs.RegionRows.{version_word_at}
use Rattle.qrcode_grid.proofs.canvas.regions.version_color.Goals as goal

pub returns : goal.returns
returns c = grind (arith, common_steps, version_word_at)
