-- The law of titles.
use Rattle.picture_settings.proofs.XmlLemmas.{texts_are_read}
use Rattle.picture_settings.proofs.laws.texts_are_read.Goals as goal

pub returns : goal.returns
returns c = texts_are_read
