-- The character is read again.
use Rattle.std.proofs.Common.{◌∷◌, [], refl, sym, ◌∙◌, arith}
use Rattle.text_plans.specs.Lanes.{force_of}
use Rattle.text_plans.proofs.Adding.{sign_reads, sign_small}
use Rattle.text_plans.proofs.push.push_sign.Goals as goal

pub returns : goal.returns
returns c = record {
  bytes = c.args.c ∷ [];
  new_is = c.in_ok-push.ensures;
  size_is = refl;
  read = λ plain mixed suits kanji.
      sign_reads plain mixed (force_of c.args.lane) c.args.c (sym c.requires.known.alphanumeric ∙ c.requires.sign);
}

pub overflow_cast-c : goal.overflow_cast-c
overflow_cast-c c = omega (arith, sign_small c.args.c c.args.facts.now c.requires.known c.requires.sign)
