use Rattle.std.proofs.Common.{refl}
use Rattle.gs1.proofs.laws.are_in_order.Goals as goal

pub returns : goal.returns
returns c = refl
