use Rattle.smallest_symbols.proofs.TextHeadline.{texts_apart}
use Rattle.smallest_symbols.proofs.text_laws.have_text_distance.Goals as goal

pub returns : goal.returns
returns c = texts_apart
