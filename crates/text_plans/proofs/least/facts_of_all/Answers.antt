-- One character after the other.
use Rattle.std.proofs.Common.{◌≡◌, ◌∷◌, ◌++◌, [], ℕ, List, take, ap, sym, subst, arith, ◌∙◌}
use Rattle.std.proofs.lemmas.Grind.{common_steps}
use Rattle.std.proofs.lemmas.List.{take_more}
use Rattle.text_plans.specs.Lanes.{AreAllFacts}
use Rattle.text_plans.proofs.Walking.{facts_more}
use Rattle.text_plans.proofs.least.facts_of_all.Goals as goal

pub loop-c-preserved : goal.loop-c-preserved
loop-c-preserved c =
    facts_more (take c.loop-c.c-index c.args.chars.now) _ c.loop-c.all.items c.push.new.self.items c.c-item.result c.facts_of.result
    c.loop-c.invariant c.facts_of.ensures
    (take_more c.args.chars.now c.loop-c.c-index c.c-item.result c.loop-c-test.true
    ∙ ap (λ (x : ℕ). take c.loop-c.c-index c.args.chars.now ++ x ∷ []) (sym c.c-item.is))
    c.in_ok-push.ensures.items

pub returns : goal.returns
returns c =
    let whole : take c.loop-c.c-index c.args.chars.now ≡ c.args.chars.now = grind (arith, common_steps) in
    subst (λ (cs : List ℕ). AreAllFacts cs c.loop-c.all.items) whole c.loop-c.invariant
