use Rattle.smallest_symbols.proofs.TextFound.{no_grid}
use Rattle.smallest_symbols.proofs.text_laws.too_long_is_not_read.Goals as goal

pub returns : goal.returns
returns c = no_grid
