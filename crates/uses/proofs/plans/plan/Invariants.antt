use Rattle.uses.proofs.plans.plan.Given as goal

abbrev pub ghosts-plan_on : goal.ghosts-plan_on
ghosts-plan_on a = record { name = a.blank.name; parts = a.blank.parts }
