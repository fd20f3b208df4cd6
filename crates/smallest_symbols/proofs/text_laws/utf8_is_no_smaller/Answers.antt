use Rattle.smallest_symbols.proofs.TextFound.{utf8_no_smaller}
use Rattle.smallest_symbols.proofs.text_laws.utf8_is_no_smaller.Goals as goal

pub returns : goal.returns
returns c = utf8_no_smaller
