use Rattle.qrcode_grid.proofs.WholeSymbols.{siblings}
use Rattle.qrcode_grid.proofs.laws.siblings_have_the_same_data.Goals as goal

pub returns : goal.returns
returns c = siblings
