-- The first class with a version that holds its least parts after a header decides.
use Rattle.std.proofs.Common.{arith}
use Rattle.qrcode_bits.proofs.Classes.{normal_is}
use Rattle.smallest_symbols.proofs.PartVersions.{class_chosen, long_part, none_before, none_many}
use Rattle.smallest_symbols.proofs.PartVersions.{none_of}
use Rattle.smallest_symbols.proofs.part_choice.chosen_part.Goals.{in-Some+in_default-first_holding_part}
use Rattle.smallest_symbols.proofs.part_choice.chosen_part.Goals.{in_default}
use Rattle.smallest_symbols.proofs.part_choice.chosen_part.Goals as goal

pub returns-then-count-gt-LONGEST_DATA-clause-refusal : goal.returns-then-count-gt-LONGEST_DATA-clause-refusal
returns-then-count-gt-LONGEST_DATA-clause-refusal c =
    long_part _ _ _ _ (omega (arith, c.char_count-count.ensures, c.if-count-gt-LONGEST_DATA.true))

pub loop-first-init : goal.loop-first-init
loop-first-init c = record {
  some = c.first_with_room-first.ensures.some;
  none = none_before _ _ _ _ _ c.char_count-count.ensures c.first_with_room-first.ensures.none;
}

pub returns-in-Some-first_holding_part-clause-chosen : goal.returns-in-Some-first_holding_part-clause-chosen
returns-in-Some-first_holding_part-clause-chosen c =
    let plan = rw c.in-Some.is at c.in_ok-plan.ensures in
    let class = c.last_of_class-last.ensures in
    (class_chosen _ _ _ c.args.limit c.loop-first.first c.last_of_class-last.result _ _ _ _
    (normal_is c.last_of_class-last.result (omega (arith, class.to, c.requires.last)))
    c.loop-first.invariant.some class.to class.class
    c.loop-first.invariant.none plan.least plan.bits c.in-Some-first_holding_part.ensures.found).0

pub returns-in-Some-first_holding_part-clause-bits : goal.returns-in-Some-first_holding_part-clause-bits
returns-in-Some-first_holding_part-clause-bits c =
    let plan = rw c.in-Some.is at c.in_ok-plan.ensures in
    let class = c.last_of_class-last.ensures in
    (class_chosen _ _ _ c.args.limit c.loop-first.first c.last_of_class-last.result _ _ _ _
    (normal_is c.last_of_class-last.result (omega (arith, class.to, c.requires.last)))
    c.loop-first.invariant.some class.to class.class
    c.loop-first.invariant.none plan.least plan.bits c.in-Some-first_holding_part.ensures.found).1

pub loop-first-preserved : goal.loop-first-preserved
loop-first-preserved c =
    let class = c.last_of_class-last.ensures in
    let last = c.last_of_class-last.result in
    let is = normal_is last (omega (arith, class.to, c.requires.last)) in
    let some = c.loop-first.invariant.some in
    record {
      some = omega (arith, some, class.from);
      none = elim c.match-branch-2.branch [
        | in-Some+in_default-first_holding_part w ↦
            (let plan = rw w.in-Some.is at c.in_ok-plan.ensures in
            none_of _ _ _ c.loop-first.first last _ is some class.class c.loop-first.invariant.none _ _ plan.least plan.bits
            (rw w.in_default-first_holding_part.is at w.first_holding_part.ensures).none)
        | in_default w ↦
            none_many _ _ _ c.loop-first.first last _ is some class.class c.loop-first.invariant.none (rw w.in_default.is at c.in_ok-plan.ensures.none)
      ];
    }

pub returns-clause-refusal : goal.returns-clause-refusal
returns-clause-refusal c = λ n few. c.loop-first.invariant.none n (omega (arith, few, c.loop-first-test.false))
