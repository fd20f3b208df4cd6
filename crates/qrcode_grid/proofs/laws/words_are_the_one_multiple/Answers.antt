use Rattle.qrcode_grid.proofs.GridLaws.{one_format_word, one_version_word}
use Rattle.qrcode_grid.proofs.laws.words_are_the_one_multiple.Goals as goal

pub returns-clause-format : goal.returns-clause-format
returns-clause-format c = one_format_word

pub returns-clause-version : goal.returns-clause-version
returns-clause-version c = one_version_word
