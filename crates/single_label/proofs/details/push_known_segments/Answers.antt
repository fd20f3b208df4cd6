-- The segments are those in the version of the symbol.
use Rattle.single_label.proofs.details.push_known_segments.Goals as goal

pub returns-in-Some-clause-details : goal.returns-in-Some-clause-details
returns-in-Some-clause-details c = rw (c.in-Some.is) (rw (c.version.ensures) at c.push_segments.ensures.details)
