use Rattle.text_plans.specs.Ways.{mixed_of, plain_of, AreRulesOf}
use Rattle.text_plans.proofs.Walking.{IsWalked}
use Rattle.text_plans.proofs.walk.plan_of.Given as goal

abbrev pub invariant-loop-k : goal.invariant-loop-k
invariant-loop-k l =
    (are : AreRulesOf l.rules) →
    IsWalked l.rules.version (plain_of l.rules.way) (mixed_of l.rules.way) l.rules are l.chars l.all l.start l.k l.lane l.draft
