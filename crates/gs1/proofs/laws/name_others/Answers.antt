use Rattle.std.proofs.Common.{refl}
use Rattle.gs1.proofs.laws.name_others.Goals as goal

pub returns : goal.returns
returns c = refl
