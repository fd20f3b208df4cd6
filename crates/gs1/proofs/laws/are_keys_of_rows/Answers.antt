use Rattle.std.proofs.Common.{refl}
use Rattle.gs1.proofs.laws.are_keys_of_rows.Goals as goal

pub returns : goal.returns
returns c = refl
