-- What stands between the marks is no longer.
use Rattle.single_label.proofs.MarkLemmas.{unmarked_shorter}
use Rattle.single_label.proofs.apart.without_marks.Goals as goal

pub returns-in-Gs1-clause-shorter : goal.returns-in-Gs1-clause-shorter
returns-in-Gs1-clause-shorter c = rw (c.scanned.ensures) (unmarked_shorter c.args.bytes.now)
