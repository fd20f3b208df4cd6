use Rattle.gs1.proofs.Pieces.{values_are_joined}
use Rattle.gs1.proofs.laws.are_joined.Goals as goal

pub returns : goal.returns
returns c = values_are_joined
