-- Each lane is looked at once.
use Rattle.std.proofs.Common.{ℕ, subst, sym, ◌≢◌, ◌<◌, length, arith, ◌∙◌, below_more, get_or-set_other, get_or-set_same}
use Rattle.std.proofs.Math.ListN.{length-set}
use Rattle.text_plans.specs.Lanes.{IsSize}
use Rattle.text_plans.proofs.Sizes.{common_size, ones}
use Rattle.text_plans.proofs.facts.sizes_of.Goals as goal

pub loop-lane-preserved : goal.loop-lane-preserved
loop-lane-preserved c = (
  length-set c.loop-lane.sizes c.loop-lane.lane c.size_in.result ∙ c.loop-lane.invariant.0,
  below_more _ _
      (λ k h. let ne : k ≢ c.loop-lane.lane = omega arith in rw get_or-set_other (c.loop-lane.invariant.1 k h))
      (let lt : c.loop-lane.lane < length c.loop-lane.sizes = omega (arith, c.loop-lane.invariant.0) in rw get_or-set_same c.size_in.ensures),
)

pub returns-in-Some : goal.returns-in-Some
returns-in-Some c = λ lane inside.
    subst (λ (n : ℕ). IsSize lane c.args.c n) (sym (ones 1 lane inside))
    (common_size c.in-Some.field-0 c.args.c c.ranges.c.0 c.in-Some.ensures.right lane inside)
