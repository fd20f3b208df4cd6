-- The lanes that are needed are enough; without pairs the way without Kanji segments has no more than any parts.
use Rattle.std.proofs.Common.{◌∙◌, List, subst}
use Rattle.text_plans.specs.declared.facts.Facts.{Facts}
use Rattle.text_plans.specs.declared.rules.Way.TheVariants.{Unmixed}
use Rattle.text_plans.specs.Keeping.{AreEnough}
use Rattle.text_plans.proofs.AllWays.{as_way, many_bits, of_no_pairs}
use Rattle.text_plans.proofs.Kept.{enough_covered}
use Rattle.text_plans.proofs.least.plan_in.Goals as goal

pub is_too_long-requires-clause-needed : goal.is_too_long-requires-clause-needed
is_too_long-requires-clause-needed c =
    enough_covered c.needed_lanes-needed.result c.in_ok-telling.telling.items c.args.all.now c.in_ok-telling.ensures
    (subst (λ (some : List Facts). AreEnough c.needed_lanes-needed.result 17 some) c.deref.ensures.value c.needed_lanes-needed.ensures)

pub plan_of_pairs-requires-clause-needed : goal.plan_of_pairs-requires-clause-needed
plan_of_pairs-requires-clause-needed c =
    enough_covered c.needed_lanes-needed.result c.in_ok-telling.telling.items c.args.all.now c.in_ok-telling.ensures
    (subst (λ (some : List Facts). AreEnough c.needed_lanes-needed.result 17 some) c.deref.ensures.value c.needed_lanes-needed.ensures)

pub keep-unmixed-requires-clause-needed : goal.keep-unmixed-requires-clause-needed
keep-unmixed-requires-clause-needed c =
    enough_covered c.needed_lanes-needed.result c.in_ok-telling.telling.items c.args.all.now c.in_ok-telling.ensures
    (subst (λ (some : List Facts). AreEnough c.needed_lanes-needed.result 17 some) c.deref.ensures.value c.needed_lanes-needed.ensures)

pub returns-then-is_too_long-clause-none : goal.returns-then-is_too_long-clause-none
returns-then-is_too_long-clause-none c others written =
    many_bits c.args.version c.args.chars.now others written
    (c.is_too_long.ensures c.if-is_too_long.true c.args.chars.now others c.requires.known written)

pub plan_by-requires-clause-least : goal.plan_by-requires-clause-least
plan_by-requires-clause-least c text others known written =
    of_no_pairs c.args.version c.keep-unmixed.result
    (as_way c.keep-unmixed.result c.args.version Unmixed (c.keep-unmixed.ensures.version ∙ c.rules_of.ensures.version)
    (c.keep-unmixed.ensures.way ∙ c.rules_of.ensures.way) c.keep-unmixed.ensures.rules)
    others text c.args.all.now known (c.has_pair.ensures c.if-has_pair.false) written
