-- After the last lane all 15 are compared.
use Rattle.std.proofs.Common.{◌≡◌, subst, arith}
use Rattle.text_plans.specs.Keeping.{switch_kept}
use Rattle.text_plans.proofs.row.least_switch.Goals as goal

pub returns-clause-least : goal.returns-clause-least
returns-clause-least c =
    let end : c.loop-earlier.earlier ≡ 15 = omega arith in
    subst (λ k. c.loop-earlier.best.weight ≡ switch_kept c.args.rules.now c.args.facts.now c.args.row.now k) end
    c.loop-earlier.invariant.0
