-- No number has more digits than three.
use Rattle.std.proofs.Common.{arith}
use Rattle.grid_pictures.proofs.TextLemmas.{number_count}
use Rattle.grid_pictures.proofs.path.number_word.Goals as goal

pub returns-clause-few : goal.returns-clause-few
returns-clause-few c = number_count c.args.n (omega (arith, c.requires))
