-- The pieces make the line.
use Rattle.label_words.proofs.misuse.write_invalid.Goals as goal

pub returns-in-None : goal.returns-in-None
returns-in-None g c = rw (c.in-None.is) (rw (c.option_word-option.ensures, c.values_text-values.ensures) at c.write_line.ensures)

pub returns-in-Some : goal.returns-in-Some
returns-in-Some g c = rw (c.in-Some.is) (rw (c.option_word-option.ensures, c.values_text-values.ensures) at c.write_word_line.ensures)
