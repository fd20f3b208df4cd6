-- The symbol of the choice is the smallest.
use Rattle.std.proofs.Common.{◌≤◌, arith, chars, subst, sym}
use Rattle.std.specs.Prelude.{Some}
use Rattle.std.proofs.lemmas.Result.{IfErr-weaker, IfOk-weaker}
use Rattle.qrcode_base.specs.declared.types.errors.QrError.{QrError}
use Rattle.qrcode_base.specs.declared.types.Version.{Version}
use Rattle.qrcode_bits.specs.Plans.{normal}
use Rattle.qrcode_bits.proofs.Classes.{normal_is}
use Rattle.text_plans.specs.Costs.{AreTextParts}
use Rattle.text_plans.specs.Plan.{plan_parts}
use Rattle.text_plans.proofs.Starts.{text_in}
use Rattle.smallest_symbols.specs.TextHeadline.{HoldsParts}
use Rattle.smallest_symbols.specs.TextParts.{HasNoPartChoice}
use Rattle.smallest_symbols.proofs.PartVersions.{short_part}
use Rattle.smallest_symbols.proofs.TextFrames.{HasRoom, piece_room}
use Rattle.smallest_symbols.proofs.TextPieces.{smallest_piece}
use Rattle.smallest_symbols.proofs.part_symbols.part_symbol.Goals as goal

pub drawn_plan-requires-clause-written : goal.drawn_plan-requires-clause-written
drawn_plan-requires-clause-written c =
    let choice = c.in_ok-choice.ensures.chosen in
    let few : c.in_ok-choice.choice.number ≤ 40 = omega (arith, choice.up_to, c.requires.last) in (
      chars c.args.part.now,
      subst (λ (v : Version). AreTextParts v (chars c.args.part.now) (plan_parts c.in_ok-choice.choice.plan))
          (sym (normal_is c.in_ok-choice.choice.number few))
          (text_in c.args.manner (normal c.in_ok-choice.choice.number) (chars c.args.part.now) _ choice.fits.written),
    )

pub drawn_plan-requires-clause-fits : goal.drawn_plan-requires-clause-fits
drawn_plan-requires-clause-fits c =
    let choice = c.in_ok-choice.ensures.chosen in
    let few : c.in_ok-choice.choice.number ≤ 40 = omega (arith, choice.up_to, c.requires.last) in
    subst (λ (v : Version). HasRoom v c.args.level (Some c.args.header) (plan_parts c.in_ok-choice.choice.plan))
    (sym (normal_is c.in_ok-choice.choice.number few))
    (piece_room c.args.manner (normal c.in_ok-choice.choice.number) c.args.level c.args.header (chars c.args.part.now) _ choice.fits)

pub returns-clause-smallest : goal.returns-clause-smallest
returns-clause-smallest c =
    let choice = c.in_ok-choice.ensures.chosen in
    let few : c.in_ok-choice.choice.number ≤ 40 = omega (arith, choice.up_to, c.requires.last) in
    IfOk-weaker c.drawn_plan.result _ _
    (λ symbol held. (smallest_piece c.args.manner c.args.header (chars c.args.part.now) c.args.level c.args.limit c.in_ok-choice.choice.number _ choice
    c.requires.header symbol (subst (λ (v : Version). HoldsParts (Some c.args.header) (plan_parts c.in_ok-choice.choice.plan) v c.args.level symbol)
    (normal_is c.in_ok-choice.choice.number few) held)).0)
    c.drawn_plan.ensures.holds

pub returns-clause-reading : goal.returns-clause-reading
returns-clause-reading c =
    let choice = c.in_ok-choice.ensures.chosen in
    let few : c.in_ok-choice.choice.number ≤ 40 = omega (arith, choice.up_to, c.requires.last) in
    IfOk-weaker c.drawn_plan.result _ _
    (λ symbol held. (smallest_piece c.args.manner c.args.header (chars c.args.part.now) c.args.level c.args.limit c.in_ok-choice.choice.number _ choice
    c.requires.header symbol (subst (λ (v : Version). HoldsParts (Some c.args.header) (plan_parts c.in_ok-choice.choice.plan) v c.args.level symbol)
    (normal_is c.in_ok-choice.choice.number few) held)).1)
    c.drawn_plan.ensures.holds

pub returns-clause-refusal : goal.returns-clause-refusal
returns-clause-refusal c =
    let text = chars c.args.part.now in
    let short = short_part c.args.manner text c.args.level c.args.limit c.in_ok-choice.choice.number _ c.in_ok-choice.ensures.chosen in
    IfErr-weaker c.drawn_plan.result _ _
    (λ error memory. subst (λ (e : QrError). HasNoPartChoice c.args.manner text c.args.level c.args.limit e) (sym memory) short)
    c.drawn_plan.ensures.memory
