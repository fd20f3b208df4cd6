-- The character at this place.
use Rattle.std.proofs.Common.{◌≡◌, get_or, subst, arith}
use Rattle.std.proofs.lemmas.Grind.{common_steps}
use Rattle.text_plans.specs.declared.facts.Facts.{Facts}
use Rattle.text_plans.specs.Search.{IsUnwritable}
use Rattle.text_plans.proofs.table.has_unwritable.Goals as goal

pub returns-then-is_unwritable : goal.returns-then-is_unwritable
returns-then-is_unwritable c = λ e. (
  c.loop-facts.facts-index,
  c.loop-facts-test.true,
  λ d.
      let same : get_or c.args.all.now c.loop-facts.facts-index _ ≡ get_or c.args.all.now c.loop-facts.facts-index d =
      grind (arith, common_steps, c.loop-facts-test.true) in
      subst (λ (facts : Facts). IsUnwritable c.args.rules.now c.args.lane facts) same (c.is_unwritable.ensures c.if-is_unwritable.true),
)
