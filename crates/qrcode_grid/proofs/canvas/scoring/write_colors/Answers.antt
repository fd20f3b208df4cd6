use Rattle.qrcode_grid.proofs.Prelude.{arith, same_number_lists, common_steps, get_or-map, length-map}
use Rattle.qrcode_grid.proofs.MarkedLanes.{length-plane, plane_at}
use Rattle.qrcode_grid.proofs.canvas.scoring.write_colors.Goals as goal

pub returns : goal.returns
returns c = grind (arith, common_steps, get_or-map, length-map, length-plane, plane_at, same_number_lists)
