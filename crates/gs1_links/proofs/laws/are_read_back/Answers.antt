use Rattle.gs1_links.proofs.LinkOutcomes.{read_back}
use Rattle.gs1_links.proofs.laws.are_read_back.Goals as goal

pub returns : goal.returns
returns c = read_back
