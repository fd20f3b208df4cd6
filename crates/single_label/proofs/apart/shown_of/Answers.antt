-- What is left of the content.
use Rattle.single_label.proofs.apart.shown_of.Goals as goal

pub returns-clause-shown : goal.returns-clause-shown
returns-clause-shown c = (c.content_of.result.now, c.content_of.ensures.content, c.without_marks.ensures.unmarked)
