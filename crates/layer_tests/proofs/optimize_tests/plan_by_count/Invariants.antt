-- The ledger has the name and the parts of the `Blank`.
use Rattle.layer_tests.proofs.optimize_tests.plan_by_count.Given as goal

abbrev pub ghosts-counted : goal.ghosts-counted
ghosts-counted a = record { name = a.blank.name; parts = a.blank.parts }
