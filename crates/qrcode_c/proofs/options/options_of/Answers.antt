-- The numbers mean the options that are returned.
use Rattle.std.proofs.Common.{rules, arith}
use Rattle.std.{proofs.lemmas.Int.to_z-of_z, proofs.lemmas.Int.ints}
use Rattle.qrcode_c.proofs.options.options_of.Goals as goal

pub returns-clause-means : goal.returns-clause-means
returns-clause-means c = record {
  level_is = search (rules, to_z-of_z);
  least_is = search (rules, to_z-of_z, ints, arith);
  greatest_is = search (rules, to_z-of_z, ints, arith);
  strongest_is = search rules;
}
