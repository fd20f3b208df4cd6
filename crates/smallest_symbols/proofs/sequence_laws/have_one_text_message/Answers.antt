use Rattle.smallest_symbols.proofs.TextMessages.{one_text_message}
use Rattle.smallest_symbols.proofs.sequence_laws.have_one_text_message.Goals as goal

pub returns : goal.returns
returns c = one_text_message
