-- The law of distance.
use Rattle.qrcode_core.proofs.Best.{grids_apart}
use Rattle.qrcode_core.proofs.laws.have_distance.Goals as goal

pub returns : goal.returns
returns c = grids_apart
