use Rattle.smallest_symbols.proofs.WithoutPairs.{as_large}
use Rattle.smallest_symbols.proofs.byte_laws.nothing_is_lost_without_pairs.Goals as goal

pub returns : goal.returns
returns c = as_large
