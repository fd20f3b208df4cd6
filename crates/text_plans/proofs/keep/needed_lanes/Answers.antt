-- A lane is left out that another dominates.
use Rattle.std.proofs.Common.{◌≡◌, ◌-◌, false, length, ◌∙◌, ap, subst, sym, List, Bool, arith}
use Rattle.std.proofs.Math.ListN.{length-set}
use Rattle.std.proofs.lemmas.Grind.{common_steps}
use Rattle.text_plans.proofs.Kept.{all_kept, left_out}
use Rattle.text_plans.specs.Keeping.{AreEnough}
use Rattle.text_plans.proofs.keep.needed_lanes.Goals as goal
use Rattle.text_plans.proofs.keep.needed_lanes.Goals.{then-has_dominator, else-has_dominator}

pub loop-back-init : goal.loop-back-init
loop-back-init c = (
  grind (arith, common_steps, c.used_lanes-kept.ensures.length),
  all_kept c.used_lanes-kept.result c.args.all.now c.used_lanes-kept.ensures.length c.used_lanes-kept.ensures.others,
)

pub loop-back-preserved : goal.loop-back-preserved
loop-back-preserved c =
    elim c.if-has_dominator.branch [
      | then-has_dominator w ↦
          let h = c.has_dominator.ensures w.if-has_dominator.true in (
            ap (λ (x : List Bool). length x) w.kept-is ∙ length-set c.loop-back.kept (15 - c.loop-back.back) false ∙ c.loop-back.invariant.0,
            subst (λ (x : List Bool). AreEnough x 17 c.args.all.now) (sym w.kept-is)
                (left_out c.loop-back.kept (15 - c.loop-back.back) h.0 c.args.all.now h.1 h.2 h.3 c.loop-back.invariant.1),
          )
      | else-has_dominator w ↦
          subst (λ (x : List Bool). (length x ≡ 17) × AreEnough x 17 c.args.all.now) (sym w.kept-is) c.loop-back.invariant
    ]
