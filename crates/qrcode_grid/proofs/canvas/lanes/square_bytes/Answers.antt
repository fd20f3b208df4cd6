use Rattle.qrcode_grid.proofs.ByteLanes.{squares_marked}
use Rattle.qrcode_grid.proofs.canvas.lanes.square_bytes.Goals as goal

pub returns : goal.returns
returns c = squares_marked c.args.upper.now c.args.lower.now c.args.at c.requires.first c.requires.second
