-- The pair is read again, and there is one.
use Rattle.std.proofs.Common.{◌≡◌, ◌∷◌, [], refl, None, Some}
use Rattle.text_plans.specs.Lanes.{force_of}
use Rattle.text_plans.proofs.Adding.{kanji_reads}
use Rattle.text_plans.proofs.push.push_pair.Goals as goal

pub returns : goal.returns
returns c = record {
  bytes = c.in-Some.lead ∷ c.in-Some.trail ∷ [];
  new_is = c.in_ok-push-in-Some.ensures;
  size_is = refl;
  read = λ plain mixed suits kanji.
      kanji_reads plain mixed (force_of c.args.lane) c.in-Some.lead c.in-Some.trail c.args.c c.in-Some.ensures.right (kanji refl);
}

pub unreachable-requires : goal.unreachable-requires
unreachable-requires c =
    let w = c.requires.known.paired c.requires.pair in
    let e : None ≡ Some w.0 = c.in-None.ensures.found w.0.0 w.0.1 w.1 in cc
