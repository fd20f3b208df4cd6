use Rattle.qrcode_grid.proofs.Prelude.{arith, get_or-map, get_or-set_same, get_or-set_other}
use Rattle.qrcode_grid.proofs.Conditions.{cell_masked}
use Rattle.qrcode_grid.proofs.canvas.masks.mask_part.Goals as goal

pub loop-k-preserved : goal.loop-k-preserved
loop-k-preserved c = grind (arith, get_or-map, cell_masked, get_or-set_other, get_or-set_same)
