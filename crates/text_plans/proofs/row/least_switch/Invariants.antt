use Rattle.std.proofs.Common.{◌≡◌, ◌<◌}
use Rattle.text_plans.specs.Keeping.{switch_kept}
use Rattle.text_plans.specs.Switches.{IsSwitch}
use Rattle.text_plans.specs.declared.row.TheConstants.{LIMIT}
use Rattle.text_plans.proofs.row.least_switch.Given as goal

abbrev pub invariant-loop-earlier : goal.invariant-loop-earlier
invariant-loop-earlier l =
    (l.best.weight ≡ switch_kept l.rules l.facts l.row l.earlier)
    × (l.best.weight < LIMIT → IsSwitch l.rules l.facts l.row l.best)
