use Rattle.qrcode_grid.proofs.StreamPlaces.{places_of}
use Rattle.qrcode_grid.proofs.laws.blocks_fill_a_stream.Goals as goal

pub returns : goal.returns
returns c = places_of
