-- The digits are the first bytes that are written.
use Rattle.std.proofs.Common.{◌∙◌, ◌++◌, ◌/◌, ap, take, arith}
use Rattle.grid_pictures.proofs.TextLemmas.{four_written}
use Rattle.grid_pictures.proofs.path.write_number.Goals as goal

pub returns-clause-text : goal.returns-clause-text
returns-clause-text c =
    four_written c.args.line.now c.args.start _ _ _ _ (c.number_word-word.result / 16777216) c.requires.room (omega (arith, c.number_word-word.ensures.few))
    ∙ ap (λ t. take c.args.start c.args.line.now ++ t) c.number_word-word.ensures.text
