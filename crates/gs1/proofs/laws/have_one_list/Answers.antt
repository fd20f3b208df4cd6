use Rattle.gs1.proofs.Reading.{one_list}
use Rattle.gs1.proofs.laws.have_one_list.Goals as goal

pub returns : goal.returns
returns c = one_list
