use Rattle.qrcode_grid.proofs.ByteLanes.{dark_marked}
use Rattle.qrcode_grid.proofs.canvas.lanes.dark_bytes.Goals as goal

pub returns : goal.returns
returns c = dark_marked c.args.bytes.now c.args.at c.requires
