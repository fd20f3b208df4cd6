-- One character after the other.
use Rattle.std.proofs.Common.{◌≡◌, List, All, take, subst, arith}
use Rattle.std.proofs.lemmas.Grind.{common_steps}
use Rattle.std.proofs.lemmas.List.Elements.{All-more}
use Rattle.text_plans.specs.declared.facts.Facts.{Facts}
use Rattle.text_plans.specs.Keeping.{TakesNoMore}
use Rattle.text_plans.proofs.keep.dominates.Goals as goal

pub loop-facts-preserved : goal.loop-facts-preserved
loop-facts-preserved c =
    All-more (λ (facts : Facts). TakesNoMore c.args.to c.args.lane facts.sizes) c.args.all.now c.loop-facts.facts-index _ c.loop-facts-test.true
    c.loop-facts.invariant (c.takes_no_more.ensures c.if-not-takes_no_more.false)

pub returns : goal.returns
returns c = λ e.
    let whole : take c.loop-facts.facts-index c.args.all.now ≡ c.args.all.now = grind (arith, common_steps) in
    subst (λ (all : List Facts). All (λ (facts : Facts). TakesNoMore c.args.to c.args.lane facts.sizes) all) whole c.loop-facts.invariant
