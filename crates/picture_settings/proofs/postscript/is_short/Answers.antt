-- A title of many bytes takes many characters.
use Rattle.std.proofs.Common.{arith}
use Rattle.std.proofs.lemmas.Bool.Decides.{nat_tests}
use Rattle.picture_settings.proofs.StringLemmas.{text_long}
use Rattle.picture_settings.proofs.postscript.is_short.Goals as goal

pub returns-else-title-le-MAX_PS_TITLE : goal.returns-else-title-le-MAX_PS_TITLE
returns-else-title-le-MAX_PS_TITLE c = grind (arith, nat_tests, text_long c.args.title.now)
