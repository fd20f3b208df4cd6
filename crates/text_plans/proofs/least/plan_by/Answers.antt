-- What is written is the least.
use Rattle.std.proofs.Common.{ℕ, arith, inl, refl, subst, sym}
use Rattle.qrcode_base.specs.declared.types.Version.{Version}
use Rattle.text_plans.specs.Plan.{plan_parts}
use Rattle.text_plans.specs.Tables.{IsWeighed, first_weight}
use Rattle.text_plans.specs.Ways.{mixed_of, plain_of}
use Rattle.text_plans.proofs.AllWays.{many_bits, weighed_least}
use Rattle.text_plans.proofs.Starts.{weight_at_start}
use Rattle.text_plans.proofs.least.plan_by.Goals as goal

pub returns-then-weight-ge-LIMIT-clause-none : goal.returns-then-weight-ge-LIMIT-clause-none
returns-then-weight-ge-LIMIT-clause-none c others written =
    many_bits c.args.version c.args.chars.now others written
    (omega (
      arith,
      c.requires.least c.args.chars.now others c.requires.known written,
      c.weight_in-weight.ensures,
      c.if-weight-ge-LIMIT.true,
    ))

pub plan_of-requires-clause-start : goal.plan_of-requires-clause-start
plan_of-requires-clause-start c = (c.requires.enough.0, inl refl)

pub plan_of-requires-clause-inside : goal.plan_of-requires-clause-inside
plan_of-requires-clause-inside c = c.requires.rules.lanes.inside

pub plan_of-requires-clause-small : goal.plan_of-requires-clause-small
plan_of-requires-clause-small c =
    let rules = c.args.rules.now in
    let same = weight_at_start rules.version (plain_of rules.way) (mixed_of rules.way) rules c.requires.rules c.args.all.now in
    omega (arith, same, c.weight_in-weight.ensures, c.if-weight-ge-LIMIT.false)

pub returns : goal.returns
returns c =
    let rules = c.args.rules.now in
    let alike = weight_at_start rules.version (plain_of rules.way) (mixed_of rules.way) rules c.requires.rules c.args.all.now in
    let found = subst (λ (n : ℕ). IsWeighed rules.version (plain_of rules.way) (mixed_of rules.way) c.args.chars.now n (plan_parts c.in_ok-plan.plan))
    alike c.in_ok-plan.ensures.plan in
    let weighed = subst (λ (v : Version). IsWeighed v (plain_of rules.way) (mixed_of rules.way) c.args.chars.now (first_weight rules c.args.all.now)
    (plan_parts c.in_ok-plan.plan)) c.requires.version found in
    let same = subst (λ (n : ℕ). IsWeighed c.args.version (plain_of rules.way) (mixed_of rules.way) c.args.chars.now n (plan_parts c.in_ok-plan.plan))
    (sym c.weight_in-weight.ensures) weighed in
    let least = weighed_least c.args.version (plain_of rules.way) (mixed_of rules.way) c.args.chars.now c.weight_in-weight.result
    (plan_parts c.in_ok-plan.plan) same c.if-weight-ge-LIMIT.false
    (λ others w. omega (arith, c.requires.least c.args.chars.now others c.requires.known w, c.weight_in-weight.ensures)) in
    record { least = least.0; bits = least.1; none = tt }
