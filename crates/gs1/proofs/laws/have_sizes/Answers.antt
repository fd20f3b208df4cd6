use Rattle.std.proofs.Common.{refl}
use Rattle.gs1.specs.Identifiers.{identifier_length_of, predefined_length_of}
use Rattle.gs1.proofs.laws.have_sizes.Goals as goal

pub returns : goal.returns
unfolding identifier_length_of predefined_length_of
returns c = refl
