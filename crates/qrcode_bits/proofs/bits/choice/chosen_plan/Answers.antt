-- The chosen plan decides whether some plan fits.
use Rattle.qrcode_bits.proofs.Prelude.{List, sym, subst, arith, Segment, capacity, IsChosenPlan, cases_lt, common_steps, parsed}
use Rattle.qrcode_bits.specs.Optimizer.{IsShort}
use Rattle.qrcode_bits.proofs.{Adjoining.parsed-short, Pairs.bytes_valid, CuttingPlans.chosen-planned, ReadBack.short-chosen}
use Rattle.qrcode_bits.proofs.Classes.{known_limit, short-linear, plan_ordered, plan_small, counted_all, counted_more, chosen_fits_here, lacks_mode}
use Rattle.qrcode_bits.proofs.Classes.{lacks_number, too_many, modes_all, modes_lack}
use Rattle.qrcode_bits.proofs.bits.choice.chosen_plan.Goals as goal

pub optimize_uncounted-requires-clause-linear : goal.optimize_uncounted-requires-clause-linear
optimize_uncounted-requires-clause-linear c = grind (arith, short-linear c.args.bytes.now c.args.version c.requires.small c.requires.short)

pub optimize_uncounted-requires-clause-short : goal.optimize_uncounted-requires-clause-short
optimize_uncounted-requires-clause-short c =
    subst (λ (s : List Segment). IsShort s) (sym c.requires.segments) (parsed-short c.args.bytes.now c.requires.short)

pub is_too_heavy-requires-clause-limit : goal.is_too_heavy-requires-clause-limit
is_too_heavy-requires-clause-limit c = known_limit (capacity c.args.version c.args.level) c.in-Ok.limit _ c.in-Ok.ensures.is

pub returns-then-is_too_heavy-clause-none : goal.returns-then-is_too_heavy-clause-none
returns-then-is_too_heavy-clause-none c = c.if-is_too_heavy.ensures c.args.front

pub loop-part-init : goal.loop-part-init
loop-part-init c =
    let chosen : IsChosenPlan (parsed c.args.bytes.now) c.args.version c.if-segments-lt2.plan.items = grind (arith, common_steps, short-chosen) in
    let are = bytes_valid c.args.bytes.now (λ i. omega (arith, c.type_inv.bytes i)) in
    let planned = chosen-planned (parsed c.args.bytes.now) c.args.version c.if-segments-lt2.plan.items chosen in
    rw c.deref-part-items.ensures.value record {
      chosen = chosen;
      ordered = plan_ordered c.args.bytes.now c.if-segments-lt2.plan.items are planned;
      few = plan_small c.args.bytes.now c.args.version c.requires.small c.requires.short c.if-segments-lt2.plan.items are planned;
      had = λ k below. absurd (omega arith);
      counted = omega arith;
    }

pub loop-part-preserved : goal.loop-part-preserved
loop-part-preserved c =
    grind (arith, cases_lt, counted_more _ _ c.loop-part.part-index _ _ c.loop-part.invariant.counted _ c.loop-part-test.true c.wide_len.ensures.bits)

pub returns-then-indicator_number-mode_bits_count-clause-none : goal.returns-then-indicator_number-mode_bits_count-clause-none
returns-then-indicator_number-mode_bits_count-clause-none c =
    let known = known_limit (capacity c.args.version c.args.level) c.in-Ok.limit _ c.in-Ok.ensures.is in
    lacks_mode _ _ _ _ _ _ c.loop-part.invariant.chosen known (modes_lack _ _ c.loop-part.part-index c.loop-part-test.true
    (lacks_number _ _ c.indicator_number.result c.mode_bits_count.result c.indicator_number.ensures c.mode_bits_count.ensures.width
    (omega (arith, c.mode_bits_count.ensures)) c.if-indicator_number-mode_bits_count.true))

pub returns-then-size-limit-clause-none : goal.returns-then-size-limit-clause-none
returns-then-size-limit-clause-none c =
    let known = known_limit (capacity c.args.version c.args.level) c.in-Ok.limit _ c.in-Ok.ensures.is in
    too_many _ _ _ _ _ _ c.loop-part.invariant.chosen known (grind (arith, counted_all))

pub returns-clause-fits : goal.returns-clause-fits
returns-clause-fits c =
    let known = known_limit (capacity c.args.version c.args.level) c.in-Ok.limit _ c.in-Ok.ensures.is in
    let counted = counted_all _ _ c.loop-part.part-index _ _ c.loop-part.invariant.counted c.loop-part-test.false in
    rw (← c.deref-part-items.ensures.value) (chosen_fits_here _ _ _ _ _ _ c.loop-part.invariant.chosen known (modes_all _ _ c.loop-part.part-index
    (omega (arith, c.loop-part-test.false)) c.loop-part.invariant.had) (omega (arith, c.if-size-limit.false, counted)))
