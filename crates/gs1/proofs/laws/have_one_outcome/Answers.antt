use Rattle.gs1.proofs.Outcomes.{one_outcome}
use Rattle.gs1.proofs.laws.have_one_outcome.Goals as goal

pub returns : goal.returns
returns c = one_outcome
