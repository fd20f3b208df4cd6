use Rattle.gs1_links.proofs.LinkOutcomes.{read_or_refused}
use Rattle.gs1_links.proofs.laws.are_read_or_refused.Goals as goal

pub returns : goal.returns
returns c = read_or_refused
