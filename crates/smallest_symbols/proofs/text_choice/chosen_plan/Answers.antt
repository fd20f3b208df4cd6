-- The first class with a version that holds its least parts decides.
use Rattle.std.proofs.Common.{◌≤◌, arith}
use Rattle.qrcode_bits.proofs.Classes.{normal_is}
use Rattle.smallest_symbols.proofs.TextVersions.{class_chosen, none_many, none_of}
use Rattle.smallest_symbols.proofs.text_choice.chosen_plan.Goals.{in-Some+in_default-first_holding}
use Rattle.smallest_symbols.proofs.text_choice.chosen_plan.Goals.{in_default}
use Rattle.smallest_symbols.proofs.text_choice.chosen_plan.Goals as goal

pub returns-in-Some-first_holding-clause-chosen : goal.returns-in-Some-first_holding-clause-chosen
returns-in-Some-first_holding-clause-chosen c =
    let plan = rw c.in-Some.is at c.in_ok-plan.ensures in
    let class = c.last_of_class-last.ensures in
    (class_chosen _ _ _ c.args.limit c.loop-first.first c.last_of_class-last.result _ _ _ _
    (normal_is c.last_of_class-last.result (omega (arith, class.to, c.requires.last))) c.requires.some c.loop-first.invariant.order class.to class.class
    c.loop-first.invariant.none plan.least plan.bits c.in-Some-first_holding.ensures.found).0

pub returns-in-Some-first_holding-clause-bits : goal.returns-in-Some-first_holding-clause-bits
returns-in-Some-first_holding-clause-bits c =
    let plan = rw c.in-Some.is at c.in_ok-plan.ensures in
    let class = c.last_of_class-last.ensures in
    (class_chosen _ _ _ c.args.limit c.loop-first.first c.last_of_class-last.result _ _ _ _
    (normal_is c.last_of_class-last.result (omega (arith, class.to, c.requires.last))) c.requires.some c.loop-first.invariant.order class.to class.class
    c.loop-first.invariant.none plan.least plan.bits c.in-Some-first_holding.ensures.found).1

pub loop-first-preserved : goal.loop-first-preserved
loop-first-preserved c =
    let class = c.last_of_class-last.ensures in
    let last = c.last_of_class-last.result in
    let is = normal_is last (omega (arith, class.to, c.requires.last)) in
    let some : 1 ≤ c.loop-first.first = omega (arith, c.requires.some, c.loop-first.invariant.order) in
    record {
      order = omega (arith, c.loop-first.invariant.order, class.from);
      last = omega (arith, class.to);
      none = elim c.match-branch-2.branch [
        | in-Some+in_default-first_holding w ↦
            (let plan = rw w.in-Some.is at c.in_ok-plan.ensures in
            none_of _ _ _ c.loop-first.first last _ is some class.class c.loop-first.invariant.none _ _ plan.least plan.bits
            (rw w.in_default-first_holding.is at w.first_holding.ensures).none)
        | in_default w ↦
            none_many _ _ _ c.loop-first.first last _ is some class.class c.loop-first.invariant.none (rw w.in_default.is at c.in_ok-plan.ensures.none)
      ];
    }
