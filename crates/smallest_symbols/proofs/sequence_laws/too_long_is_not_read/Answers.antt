use Rattle.smallest_symbols.proofs.Utf8Pieces.{no_grid}
use Rattle.smallest_symbols.proofs.sequence_laws.too_long_is_not_read.Goals as goal

pub returns : goal.returns
returns c = no_grid
