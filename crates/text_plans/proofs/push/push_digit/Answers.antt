-- The digit is read again.
use Rattle.std.proofs.Common.{◌∷◌, [], refl, sym, ◌∙◌}
use Rattle.text_plans.specs.Lanes.{force_of}
use Rattle.text_plans.proofs.Adding.{digit_reads}
use Rattle.text_plans.proofs.push.push_digit.Goals as goal

pub returns : goal.returns
returns c = record {
  bytes = c.args.c ∷ [];
  new_is = c.in_ok-push.ensures;
  size_is = refl;
  read = λ plain mixed suits kanji. digit_reads plain mixed (force_of c.args.lane) c.args.c (sym c.requires.known.digit ∙ c.requires.digit);
}
