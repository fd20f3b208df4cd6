-- The symbol of the choice is the one that the options ask for.
use Rattle.std.proofs.Common.{◌≤◌, arith, chars, rules, subst, sym}
use Rattle.std.specs.Prelude.{None}
use Rattle.std.proofs.lemmas.Result.{IfOk-weaker, err_from_is_err_and}
use Rattle.qrcode_base.specs.declared.types.Version.{Version}
use Rattle.qrcode_bits.proofs.Classes.{normal_is}
use Rattle.qrcode_core.specs.Options.{HasVersions}
use Rattle.text_plans.specs.Costs.{AreTextParts}
use Rattle.text_plans.specs.Plan.{plan_parts}
use Rattle.smallest_symbols.specs.TextHeadline.{HoldsParts}
use Rattle.smallest_symbols.proofs.TextFrames.{HasRoom, text_room}
use Rattle.smallest_symbols.proofs.TextFound.{choice_refused, few_versions, level_fits, level_found}
use Rattle.smallest_symbols.proofs.TextFound.{none_long}
use Rattle.smallest_symbols.proofs.normal_texts.smallest_text.Goals as goal

pub returns-then-char_count-gt-LONGEST_DATA-clause-refusal : goal.returns-then-char_count-gt-LONGEST_DATA-clause-refusal
returns-then-char_count-gt-LONGEST_DATA-clause-refusal c =
    let range : HasVersions c.args.options.now = search (rules, c.in_ok-least.ensures.range.0) in
    (range, none_long _ _ _ _ (omega (arith, c.char_count.ensures, c.if-char_count-gt-LONGEST_DATA.true)))

pub returns-in_err-choice-clause-refusal : goal.returns-in_err-choice-clause-refusal
returns-in_err-choice-clause-refusal c =
    let range : HasVersions c.args.options.now = search (rules, c.in_ok-least.ensures.range.0) in
    let p = err_from_is_err_and c.from_residual-in_err-choice.result c.from_residual-in_err-choice.ensures.1 in
    rw (p.1, p.2) (choice_refused c.args.options.now _ _ _ _ range c.in_ok-least.ensures.least c.in_ok-least.ensures.greatest
    (omega (arith, c.char_count.ensures, c.if-char_count-gt-LONGEST_DATA.false)) c.in_err-choice.ensures.refusal)

pub drawn_plan-requires-clause-written : goal.drawn_plan-requires-clause-written
drawn_plan-requires-clause-written c =
    let range : HasVersions c.args.options.now = search (rules, c.in_ok-least.ensures.range.0) in
    let most = few_versions c.args.options.now.max_version range.1 in
    let few : c.in_ok-choice.choice.number ≤ 40 = omega (arith, most, c.in_ok-least.ensures.greatest, c.in_ok-choice.ensures.chosen.up_to) in (
      chars c.args.text.now,
      subst (λ (v : Version). AreTextParts v (chars c.args.text.now) (plan_parts c.in_ok-choice.choice.plan))
          (sym (normal_is c.in_ok-choice.choice.number few)) c.in_ok-choice.ensures.chosen.fits.written,
    )

pub drawn_plan-requires-clause-fits : goal.drawn_plan-requires-clause-fits
drawn_plan-requires-clause-fits c =
    let range : HasVersions c.args.options.now = search (rules, c.in_ok-least.ensures.range.0) in
    let most = few_versions c.args.options.now.max_version range.1 in
    let few : c.in_ok-choice.choice.number ≤ 40 = omega (arith, most, c.in_ok-least.ensures.greatest, c.in_ok-choice.ensures.chosen.up_to) in
    let chosen = rw (c.in_ok-least.ensures.least, c.in_ok-least.ensures.greatest) at c.in_ok-choice.ensures.chosen in
    subst (λ (v : Version). HasRoom v c.level_of-level.result None (plan_parts c.in_ok-choice.choice.plan))
    (sym (normal_is c.in_ok-choice.choice.number few))
    (text_room _ _ _ _
    (level_fits _ _ _ _ _ _ c.in_ok-choice.choice.bits _ chosen c.in_ok-choice.ensures.bits c.args.options.now.strongest c.level_of-level.ensures))

pub returns-clause-asked : goal.returns-clause-asked
returns-clause-asked c =
    let range : HasVersions c.args.options.now = search (rules, c.in_ok-least.ensures.range.0) in
    let most = few_versions c.args.options.now.max_version range.1 in
    let few : c.in_ok-choice.choice.number ≤ 40 = omega (arith, most, c.in_ok-least.ensures.greatest, c.in_ok-choice.ensures.chosen.up_to) in
    let chosen = rw (c.in_ok-least.ensures.least, c.in_ok-least.ensures.greatest) at c.in_ok-choice.ensures.chosen in
    IfOk-weaker c.drawn_plan.result _ _
    (λ symbol held. (level_found _ _ _ _ _ _ c.in_ok-choice.choice.bits _ chosen c.in_ok-choice.ensures.bits c.args.options.now.strongest
    c.level_of-level.ensures symbol (subst (λ (v : Version). HoldsParts None (plan_parts c.in_ok-choice.choice.plan) v c.level_of-level.result symbol)
    (normal_is c.in_ok-choice.choice.number few) held)).0)
    c.drawn_plan.ensures.holds

pub returns-clause-reading : goal.returns-clause-reading
returns-clause-reading c =
    let range : HasVersions c.args.options.now = search (rules, c.in_ok-least.ensures.range.0) in
    let most = few_versions c.args.options.now.max_version range.1 in
    let few : c.in_ok-choice.choice.number ≤ 40 = omega (arith, most, c.in_ok-least.ensures.greatest, c.in_ok-choice.ensures.chosen.up_to) in
    let chosen = rw (c.in_ok-least.ensures.least, c.in_ok-least.ensures.greatest) at c.in_ok-choice.ensures.chosen in
    IfOk-weaker c.drawn_plan.result _ _
    (λ symbol held. (level_found _ _ _ _ _ _ c.in_ok-choice.choice.bits _ chosen c.in_ok-choice.ensures.bits c.args.options.now.strongest
    c.level_of-level.ensures symbol (subst (λ (v : Version). HoldsParts None (plan_parts c.in_ok-choice.choice.plan) v c.level_of-level.result symbol)
    (normal_is c.in_ok-choice.choice.number few) held)).1)
    c.drawn_plan.ensures.holds
