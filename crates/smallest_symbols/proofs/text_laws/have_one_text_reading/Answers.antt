use Rattle.smallest_symbols.proofs.TextHeadline.{one_text_reading}
use Rattle.smallest_symbols.proofs.text_laws.have_one_text_reading.Goals as goal

pub returns : goal.returns
returns c = one_text_reading
