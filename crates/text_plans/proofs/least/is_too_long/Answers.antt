-- One of the three ways has no more than any parts.
use Rattle.std.proofs.Common.{◌≤◌, inl, inr, arith}
use Rattle.std.proofs.lemmas.Grind.{common_steps}
use Rattle.text_plans.specs.declared.row.TheConstants.{LIMIT}
use Rattle.text_plans.specs.declared.rules.Way.TheVariants.{Plain, Unmixed, Mixed}
use Rattle.text_plans.proofs.AllWays.{as_way, one_of}
use Rattle.text_plans.proofs.least.is_too_long.Goals as goal

pub returns : goal.returns
returns c e text others known written =
    let limit : LIMIT ≤ c.lighter-2.result.1 = grind (arith, common_steps, e) in
    elim (one_of c.args.version c.weighed-plain.result.0 c.weighed-unmixed.result.0 c.weighed-mixed.result.0
    (as_way c.weighed-plain.result.0 c.args.version Plain c.weighed-plain.ensures.version c.weighed-plain.ensures.way c.weighed-plain.ensures.rules)
    (as_way c.weighed-unmixed.result.0 c.args.version Unmixed c.weighed-unmixed.ensures.version c.weighed-unmixed.ensures.way c.weighed-unmixed.ensures.rules)
    (as_way c.weighed-mixed.result.0 c.args.version Mixed c.weighed-mixed.ensures.version c.weighed-mixed.ensures.way c.weighed-mixed.ensures.rules)
    others text c.args.all.now known written) [
      | inl w ↦ omega (arith, limit, w, c.weighed-plain.ensures.weight, c.lighter.ensures.less, c.lighter-2.ensures.less)
      | inr rest ↦ elim rest [
        | inl w ↦ omega (arith, limit, w, c.weighed-unmixed.ensures.weight, c.lighter.ensures.also, c.lighter-2.ensures.less)
        | inr w ↦ omega (arith, limit, w, c.weighed-mixed.ensures.weight, c.lighter-2.ensures.also)
      ]
    ]
