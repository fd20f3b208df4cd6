-- Nothing begins in the lane of the rules, and else the least designator is in front.
use Rattle.std.proofs.Common.{◌≡◌, ◌<◌, arith, false, inr, length, []}
use Rattle.std.proofs.lemmas.Grind.{common_steps}
use Rattle.text_plans.specs.declared.facts.Facts.{Facts}
use Rattle.text_plans.specs.declared.rules.Manner.TheVariants.{Designated}
use Rattle.text_plans.proofs.Starts.{first_switch, no_weight, plain_start}
use Rattle.text_plans.proofs.together.designated_start.Goals as goal

abbrev none : Facts
none = record { digit = false; alphanumeric = false; pair = false; sizes = [] }

pub returns-then-is_empty-clause-start : goal.returns-then-is_empty-clause-start
returns-then-is_empty-clause-start c small =
    let rules = c.args.rules.now in
    let empty : length c.args.all.now ≡ 0 = grind (arith, common_steps, c.is_empty.ensures, c.if-is_empty.true) in
    plain_start rules c.requires.rules Designated c.args.all.now c.weight_in.result c.requires.enough c.weight_in.ensures
    (inr (no_weight rules c.requires.rules c.args.all.now c.weight_in.result c.weight_in.ensures empty).1)

pub returns-clause-weight : goal.returns-clause-weight
returns-clause-weight c =
    let some : 0 < length c.args.all.now = grind (arith, common_steps, c.is_empty.ensures, c.if-is_empty.false) in
    let change = c.least_switch-change in
    (first_switch c.args.rules.now c.requires.rules c.args.all.now c.args.rows.now none change.result c.requires.rows c.requires.enough some
    change.ensures.least change.ensures.of).0

pub returns-clause-start : goal.returns-clause-start
returns-clause-start c =
    let some : 0 < length c.args.all.now = grind (arith, common_steps, c.is_empty.ensures, c.if-is_empty.false) in
    let change = c.least_switch-change in
    (first_switch c.args.rules.now c.requires.rules c.args.all.now c.args.rows.now none change.result c.requires.rows c.requires.enough some
    change.ensures.least change.ensures.of).1
