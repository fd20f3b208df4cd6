-- The lanes that are needed are enough.
use Rattle.std.proofs.Common.{List, subst}
use Rattle.text_plans.specs.declared.facts.Facts.{Facts}
use Rattle.text_plans.specs.Keeping.{AreEnough}
use Rattle.text_plans.proofs.Kept.{enough_covered}
use Rattle.text_plans.proofs.together.plan_in_manner.Goals as goal

pub keep-rules-requires-clause-needed : goal.keep-rules-requires-clause-needed
keep-rules-requires-clause-needed c =
    enough_covered c.needed_lanes-needed.result c.in_ok-telling.telling.items c.args.all.now c.in_ok-telling.ensures
    (subst (λ (some : List Facts). AreEnough c.needed_lanes-needed.result 17 some) c.deref.ensures.value c.needed_lanes-needed.ensures)
