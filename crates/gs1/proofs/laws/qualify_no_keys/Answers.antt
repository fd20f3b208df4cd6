use Rattle.gs1.proofs.RowLemmas.{rows_qualify}
use Rattle.gs1.proofs.laws.qualify_no_keys.Goals as goal

pub returns : goal.returns
returns c = rows_qualify
