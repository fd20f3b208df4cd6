-- The symbol of the choice is the smallest.
use Rattle.std.proofs.Common.{◌≡◌, arith, chars, false, subst, sym, true}
use Rattle.std.specs.Prelude.{None}
use Rattle.qrcode_base.specs.declared.types.Version.{Version}
use Rattle.qrcode_bits.specs.Plans.{micro}
use Rattle.qrcode_bits.proofs.Classes.{micro_is}
use Rattle.text_plans.specs.Costs.{AreTextParts}
use Rattle.text_plans.specs.Plan.{plan_parts}
use Rattle.smallest_symbols.specs.TextHeadline.{HoldsParts}
use Rattle.smallest_symbols.proofs.TextFrames.{HasRoom, text_room}
use Rattle.smallest_symbols.proofs.TextFound.{few_micro, micro_smallest, none_long_micro}
use Rattle.smallest_symbols.proofs.micro_texts.micro_text.Goals as goal

pub drawn_plan-requires-clause-written : goal.drawn_plan-requires-clause-written
drawn_plan-requires-clause-written c =
    let choice = c.in-Ok.ensures.chosen in (
      chars c.args.text.now,
      subst (λ (v : Version). AreTextParts v (chars c.args.text.now) (plan_parts c.in-Ok.choice.plan))
          (sym (micro_is c.in-Ok.choice.number (few_micro c.in-Ok.choice.number choice.version))) choice.chosen.fits.written,
    )

pub drawn_plan-requires-clause-fits : goal.drawn_plan-requires-clause-fits
drawn_plan-requires-clause-fits c =
    let choice = c.in-Ok.ensures.chosen in
    subst (λ (v : Version). HasRoom v c.args.level None (plan_parts c.in-Ok.choice.plan))
    (sym (micro_is c.in-Ok.choice.number (few_micro c.in-Ok.choice.number choice.version)))
    (text_room (micro c.in-Ok.choice.number) c.args.level (chars c.args.text.now) _ choice.chosen.fits)

pub returns-in-Ok-drawn_plan-clause-smallest : goal.returns-in-Ok-drawn_plan-clause-smallest
returns-in-Ok-drawn_plan-clause-smallest c =
    let choice = c.in-Ok.ensures.chosen in
    (micro_smallest (chars c.args.text.now) c.args.level c.in-Ok.choice.number _ c.in-Ok-drawn_plan.symbol choice
    (subst (λ (v : Version). HoldsParts None (plan_parts c.in-Ok.choice.plan) v c.args.level c.in-Ok-drawn_plan.symbol)
    (micro_is c.in-Ok.choice.number (few_micro c.in-Ok.choice.number choice.version)) c.in-Ok-drawn_plan.ensures.holds)).0

pub returns-in-Ok-drawn_plan-clause-reading : goal.returns-in-Ok-drawn_plan-clause-reading
returns-in-Ok-drawn_plan-clause-reading c =
    let choice = c.in-Ok.ensures.chosen in
    (micro_smallest (chars c.args.text.now) c.args.level c.in-Ok.choice.number _ c.in-Ok-drawn_plan.symbol choice
    (subst (λ (v : Version). HoldsParts None (plan_parts c.in-Ok.choice.plan) v c.args.level c.in-Ok-drawn_plan.symbol)
    (micro_is c.in-Ok.choice.number (few_micro c.in-Ok.choice.number choice.version)) c.in-Ok-drawn_plan.ensures.holds)).1

pub returns-then-char_count-gt-MOST_CHARACTERS-clause-refusal : goal.returns-then-char_count-gt-MOST_CHARACTERS-clause-refusal
returns-then-char_count-gt-MOST_CHARACTERS-clause-refusal c = (
  λ h. let bad : false ≡ true = rw h at c.if-eq.ensures in absurd (cc),
  c.is_micro_text.ensures.0 c.if-not-is_micro_text.false,
  none_long_micro (chars c.args.text.now) c.args.level (omega (arith, c.char_count.ensures, c.if-char_count-gt-MOST_CHARACTERS.true)),
)
