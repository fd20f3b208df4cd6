-- A lane that is not used has no more bytes in UTF-8.
use Rattle.std.proofs.Common.{◌≡◌, ◌∙◌, ℕ, List, Bool, All, false, length, get_or, take, ap, subst, arith}
use Rattle.std.proofs.lemmas.Grind.{common_steps}
use Rattle.std.proofs.lemmas.List.Elements.{All-more}
use Rattle.text_plans.specs.declared.facts.Facts.{Facts}
use Rattle.text_plans.specs.Keeping.{TakesNoMore}
use Rattle.text_plans.proofs.keep.used_lanes.Goals as goal
use Rattle.text_plans.proofs.keep.used_lanes.Goals.{then-facts-ne1, else-facts-ne1}

single : (lane : ℕ) (sizes : List ℕ) → get_or sizes 15 0 ≡ 1 → TakesNoMore 15 lane sizes
single lane sizes one some = (λ e. absurd (omega (arith, e, one)), omega (arith, one, some))

pub loop-facts-preserved : goal.loop-facts-preserved
loop-facts-preserved c =
    elim c.if-facts-ne1.branch [
      | then-facts-ne1 w ↦ (
        ap (λ (u : List Bool). length u) w.used-is ∙ w.add_lanes.ensures.length,
        λ lane inside free.
            let both = w.add_lanes.ensures.others lane inside (subst (λ (u : List Bool). get_or u lane false ≡ false) w.used-is free) in
            All-more (λ (facts : Facts). TakesNoMore 15 lane facts.sizes) c.args.all.now c.loop-facts.facts-index _ c.loop-facts-test.true
            (c.loop-facts.invariant.1 lane inside both.0) (λ some. absurd (some both.1)),
      )
      | else-facts-ne1 w ↦ (
        ap (λ (u : List Bool). length u) w.used-is ∙ c.loop-facts.invariant.0,
        λ lane inside free.
            All-more (λ (facts : Facts). TakesNoMore 15 lane facts.sizes) c.args.all.now c.loop-facts.facts-index _ c.loop-facts-test.true
            (c.loop-facts.invariant.1 lane inside (subst (λ (u : List Bool). get_or u lane false ≡ false) w.used-is free))
            (single lane _ w.if-facts-ne1.false),
      )
    ]

pub returns : goal.returns
returns c = record {
  length = c.loop-facts.invariant.0;
  others = λ lane inside free.
      let whole : take c.loop-facts.facts-index c.args.all.now ≡ c.args.all.now = grind (arith, common_steps) in
      subst (λ (all : List Facts). All (λ (facts : Facts). TakesNoMore 15 lane facts.sizes) all) whole (c.loop-facts.invariant.1 lane inside free);
}
