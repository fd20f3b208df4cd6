-- One character more, and all of them.
use Rattle.std.proofs.Common.{sym, ◌∙◌, subst, List, ℕ}
use Rattle.std.specs.Prelude.{◌↔◌, All, IsTrue}
use Rattle.std.proofs.lemmas.List.{map-id}
use Rattle.std.proofs.lemmas.Iterator.{YieldsList-from_chars}
use Rattle.std.proofs.lemmas.Iterator.Consumers.{YieldsList-end}
use Rattle.smallest_symbols.specs.MicroTexts.{IsAsciiCharacter, IsMixedCharacter}
use Rattle.smallest_symbols.proofs.MicroTexts.{micro_test, test_more}
use Rattle.smallest_symbols.proofs.writable.is_micro_text.Goals as goal

pub loop-c-preserved : goal.loop-c-preserved
loop-c-preserved c = record {
  ascii = test_more IsAsciiCharacter c.loop-c.yielded c.in-Some.c c.loop-c.ascii c.is_ascii_character-ascii.result c.loop-c.invariant.ascii
      c.is_ascii_character-ascii.ensures;
  mixed = test_more IsMixedCharacter c.loop-c.yielded c.in-Some.c c.loop-c.mixed c.is_mixed_character-mixed.result c.loop-c.invariant.mixed
      c.is_mixed_character-mixed.ensures;
}

pub returns : goal.returns
returns c =
    let t = YieldsList-end (YieldsList-from_chars c.args.text.now c.utf8.text cc)
    c.loop-c.yielded _ c.loop-c.yielded_by _ _ c.in-None.is c.next.ensures.steps in
    let all = sym (map-id c.loop-c.yielded) ∙ t.0 in
    micro_test _ c.loop-c.ascii c.loop-c.mixed
    (subst (λ (cs : List ℕ). IsTrue c.loop-c.ascii ↔ All IsAsciiCharacter cs) all c.loop-c.invariant.ascii)
    (subst (λ (cs : List ℕ). IsTrue c.loop-c.mixed ↔ All IsMixedCharacter cs) all c.loop-c.invariant.mixed)
