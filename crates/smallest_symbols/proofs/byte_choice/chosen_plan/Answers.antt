-- The first class with a version that holds the bits of its chosen plan decides.
use Rattle.std.proofs.Common.{◌+◌, ◌≤◌, arith}
use Rattle.qrcode_bits.proofs.Classes.{normal_is}
use Rattle.qrcode_bits.proofs.Pairs.{bytes_valid}
use Rattle.smallest_symbols.proofs.ByteCosts.{text_parsed}
use Rattle.smallest_symbols.proofs.ByteVersions.{chosen_lies, class_chosen, class_size}
use Rattle.smallest_symbols.proofs.ByteVersions.{class_skipped, class_unfit, holds_not}
use Rattle.smallest_symbols.proofs.ByteVersions.{none_in_range}
use Rattle.smallest_symbols.proofs.byte_choice.chosen_plan.Goals.{else-holds}
use Rattle.smallest_symbols.proofs.byte_choice.chosen_plan.Goals.{then-holds+in_ok-plan+in_default}
use Rattle.smallest_symbols.proofs.byte_choice.chosen_plan.Goals as goal

pub needed_bits-needed-requires : goal.needed_bits-needed-requires
needed_bits-needed-requires c =
    let are = bytes_valid c.args.bytes.now (λ i. omega (arith, c.type_inv.bytes i)) in
    text_parsed c.args.bytes.now _ are c.requires.short (rw c.deref.ensures.value c.in_ok-segments.ensures.ok)

pub least_plan-requires-clause-parsed : goal.least_plan-requires-clause-parsed
least_plan-requires-clause-parsed c =
    let are = bytes_valid c.args.bytes.now (λ i. omega (arith, c.type_inv.bytes i)) in
    text_parsed c.args.bytes.now _ are c.requires.short (rw c.deref-then-holds.ensures.value c.in_ok-segments.ensures.ok)

pub returns-in-Some-clause-within : goal.returns-in-Some-clause-within
returns-in-Some-clause-within c =
    let are = bytes_valid c.args.bytes.now (λ i. omega (arith, c.type_inv.bytes i)) in
    let chosen = rw (c.deref-then-holds.ensures.value, c.in_ok-segments.ensures.ok) at c.in_ok-plan.ensures.chosen in
    chosen_lies c.args.bytes.now _ _ are chosen

pub returns-in-Some-clause-chosen : goal.returns-in-Some-clause-chosen
returns-in-Some-clause-chosen c =
    let last = c.last_of_class-last.result in
    let is = normal_is last (omega (arith, c.last_of_class-last.ensures.to, c.requires.last)) in
    let are = bytes_valid c.args.bytes.now (λ i. omega (arith, c.type_inv.bytes i)) in
    let chosen = rw (c.deref-then-holds.ensures.value, c.in_ok-segments.ensures.ok) at c.in_ok-plan.ensures.chosen in
    let some : 1 ≤ c.loop-first.first = omega (arith, c.requires.some, c.loop-first.invariant.order) in
    class_chosen c.args.bytes.now are c.args.level c.args.least c.loop-first.first last _ _ _ is chosen c.in_ok-plan.ensures.bits some
    c.last_of_class-last.ensures.class c.loop-first.invariant.none c.args.limit c.in-Some.number c.loop-first.invariant.order
    c.last_of_class-last.ensures.to c.in-Some.ensures.found

pub returns-in-Some-clause-bits : goal.returns-in-Some-clause-bits
returns-in-Some-clause-bits c =
    let last = c.last_of_class-last.result in
    let is = normal_is last (omega (arith, c.last_of_class-last.ensures.to, c.requires.last)) in
    let are = bytes_valid c.args.bytes.now (λ i. omega (arith, c.type_inv.bytes i)) in
    let chosen = rw (c.deref-then-holds.ensures.value, c.in_ok-segments.ensures.ok) at c.in_ok-plan.ensures.chosen in
    let some : 1 ≤ c.loop-first.first = omega (arith, c.requires.some, c.loop-first.invariant.order) in
    class_size c.args.bytes.now are c.args.level c.args.least c.loop-first.first last _ _ _ is chosen c.in_ok-plan.ensures.bits some
    c.last_of_class-last.ensures.class c.loop-first.invariant.none c.args.limit c.in-Some.number c.loop-first.invariant.order
    c.last_of_class-last.ensures.to c.in-Some.ensures.found

pub loop-first-preserved : goal.loop-first-preserved
loop-first-preserved c =
    let last = c.last_of_class-last.result in
    let are = bytes_valid c.args.bytes.now (λ i. omega (arith, c.type_inv.bytes i)) in
    let some : 1 ≤ c.loop-first.first = omega (arith, c.requires.some, c.loop-first.invariant.order) in
    record {
      order = omega (arith, c.loop-first.invariant.order, c.last_of_class-last.ensures.from);
      last = omega (arith, c.last_of_class-last.ensures.to);
      none = elim c.if-holds.branch [
        | then-holds+in_ok-plan+in_default w ↦
            (let is = normal_is last (omega (arith, c.last_of_class-last.ensures.to, c.requires.last)) in
            let chosen = rw (w.deref-then-holds.ensures.value, c.in_ok-segments.ensures.ok) at w.in_ok-plan.ensures.chosen in
            class_unfit c.args.bytes.now are c.args.level c.args.least c.loop-first.first last _ _ _ is chosen w.in_ok-plan.ensures.bits some
            c.last_of_class-last.ensures.class c.loop-first.invariant.none (last + 1) (omega arith) (rw w.in_default.is at w.first_holding.ensures).none)
        | else-holds w ↦
            class_skipped c.args.bytes.now c.args.level c.args.least c.loop-first.first last c.needed_bits-needed.result
            (rw (c.deref.ensures.value, c.in_ok-segments.ensures.ok) at c.needed_bits-needed.ensures) some c.last_of_class-last.ensures.from
            (omega (arith, c.last_of_class-last.ensures.to, c.requires.last)) c.last_of_class-last.ensures.class c.loop-first.invariant.none
            (holds_not c.needed_bits-needed.result last c.args.level _ c.holds.ensures w.if-holds.false)
      ];
    }

pub returns-clause-refusal : goal.returns-clause-refusal
returns-clause-refusal c =
    none_in_range c.args.least c.args.bytes.now c.args.level c.args.limit c.loop-first.first c.requires.order (omega (arith, c.loop-first-test.false))
    c.loop-first.invariant.none
