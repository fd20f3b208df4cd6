use Rattle.gs1_base.proofs.Percents.{have_one_text}
use Rattle.gs1_base.proofs.laws.have_one_text.Goals as goal

pub returns : goal.returns
returns c = have_one_text
