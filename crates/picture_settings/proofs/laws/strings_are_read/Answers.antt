-- The law of titles.
use Rattle.picture_settings.proofs.StringLemmas.{strings_are_read}
use Rattle.picture_settings.proofs.laws.strings_are_read.Goals as goal

pub returns : goal.returns
returns c = strings_are_read
