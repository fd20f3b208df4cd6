use Rattle.gs1_links.proofs.OneLink.{one_reading}
use Rattle.gs1_links.proofs.laws.have_one_reading.Goals as goal

pub returns : goal.returns
returns c = one_reading
