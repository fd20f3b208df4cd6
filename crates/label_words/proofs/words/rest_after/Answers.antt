-- What follows the start.
use Rattle.label_words.proofs.WordLemmas.{stripped}
use Rattle.label_words.proofs.words.rest_after.Goals as goal

pub returns : goal.returns
returns c = stripped _ _ _ c.strip_prefix.ensures.cases
