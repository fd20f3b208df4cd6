use Rattle.smallest_symbols.proofs.ByteFound.{none_read}
use Rattle.smallest_symbols.proofs.byte_laws.too_long_is_not_read.Goals as goal

pub returns : goal.returns
returns c = none_read
