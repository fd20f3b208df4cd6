-- The position is near, and what printers are asked is tested last.
use Rattle.std.proofs.Common.{◌≡◌, ◌∙◌, Bool, true, ap, sym, rules, arith}
use Rattle.std.specs.Prelude.{◌&&◌, ◌||◌, not, is_none}
use Rattle.std.proofs.lemmas.Grind.{common_steps}
use Rattle.picture_settings.specs.Formats.{can_be_inverted, has_dots, has_millimetres, has_position}
use Rattle.picture_settings.specs.Settings.{allows, allows_position, color_tests, first_failed, first_of, printer_tests, setting_tests}
use Rattle.picture_settings.proofs.SettingLemmas.{all_passed, first_is, near, second_is}
use Rattle.picture_settings.proofs.draw_options.DrawOptions.new.Goals as goal

pub invariant_of-result-clause-far_right : goal.invariant_of-result-clause-far_right
invariant_of-result-clause-far_right c =
    let valid = near c.has_position.result c.args.settings.now.at (sym c.allows_position.ensures ∙ c.in_ok-require-8.ensures.valid) in
    rw c.unwrap_or-3.ensures valid.0

pub invariant_of-result-clause-far_down : goal.invariant_of-result-clause-far_down
invariant_of-result-clause-far_down c =
    let valid = near c.has_position.result c.args.settings.now.at (sym c.allows_position.ensures ∙ c.in_ok-require-8.ensures.valid) in
    rw c.unwrap_or-3.ensures valid.1

pub returns-in_err-require_printable-clause-refusal : goal.returns-in_err-require_printable-clause-refusal
returns-in_err-require_printable-clause-refusal c =
    let format = c.args.format in
    let s = c.args.settings.now in
    let dots : c.if-has_dots.lone_dpi ≡ (has_dots format && is_none s.module_um) = grind (arith, common_steps) in
    let inverted : (not s.inverted || can_be_inverted format) ≡ true = grind (arith, common_steps) in
    let millimetres : allows (has_millimetres format) 50 10000 s.module_um ≡ true =
    sym (c.allows-sized.ensures ∙ ap (λ (b : Bool). allows b 50 10000 s.module_um) c.has_millimetres-millimetres.ensures) ∙ c.in_ok-require-3.ensures.valid in
    let dpi : allows (has_dots format && is_none s.module_um) 500 24000 s.dpi_tenths ≡ true =
    sym (c.allows-dotted.ensures ∙ ap (λ (b : Bool). allows b 500 24000 s.dpi_tenths) dots) ∙ c.in_ok-require-4.ensures.valid in
    let place : allows_position (has_position format) s.at ≡ true =
    sym (c.allows_position.ensures ∙ ap (λ (b : Bool). allows_position b s.at) c.has_position.ensures) ∙ c.in_ok-require-8.ensures.valid in
    let left : first_failed (setting_tests format s) ≡ first_failed (printer_tests format s) =
    all_passed format s (sym c.allows.ensures ∙ c.in_ok-require.ensures.valid) (sym c.allows-2.ensures ∙ c.in_ok-require-2.ensures.valid)
    millimetres dpi inverted (sym c.allows_title.ensures ∙ c.in_ok-require-6.ensures.valid)
    (sym c.allows_caption.ensures ∙ c.in_ok-require-7.ensures.valid) place in
    first_is c.from_residual-in_err-require_printable.result _ _ (first_failed (color_tests format s)) left (search rules)

pub returns-in_err-require_colored-clause-refusal : goal.returns-in_err-require_colored-clause-refusal
returns-in_err-require_colored-clause-refusal c =
    let format = c.args.format in
    let s = c.args.settings.now in
    let dots : c.if-has_dots.lone_dpi ≡ (has_dots format && is_none s.module_um) = grind (arith, common_steps) in
    let inverted : (not s.inverted || can_be_inverted format) ≡ true = grind (arith, common_steps) in
    let millimetres : allows (has_millimetres format) 50 10000 s.module_um ≡ true =
    sym (c.allows-sized.ensures ∙ ap (λ (b : Bool). allows b 50 10000 s.module_um) c.has_millimetres-millimetres.ensures) ∙ c.in_ok-require-3.ensures.valid in
    let dpi : allows (has_dots format && is_none s.module_um) 500 24000 s.dpi_tenths ≡ true =
    sym (c.allows-dotted.ensures ∙ ap (λ (b : Bool). allows b 500 24000 s.dpi_tenths) dots) ∙ c.in_ok-require-4.ensures.valid in
    let place : allows_position (has_position format) s.at ≡ true =
    sym (c.allows_position.ensures ∙ ap (λ (b : Bool). allows_position b s.at) c.has_position.ensures) ∙ c.in_ok-require-8.ensures.valid in
    let left : first_failed (setting_tests format s) ≡ first_failed (printer_tests format s) =
    all_passed format s (sym c.allows.ensures ∙ c.in_ok-require.ensures.valid) (sym c.allows-2.ensures ∙ c.in_ok-require-2.ensures.valid)
    millimetres dpi inverted (sym c.allows_title.ensures ∙ c.in_ok-require-6.ensures.valid)
    (sym c.allows_caption.ensures ∙ c.in_ok-require-7.ensures.valid) place in
    second_is c.from_residual-in_err-require_colored.result _ (first_failed (color_tests format s)) (left ∙ c.in_ok-require_printable.ensures.valid) (search rules)

pub returns-clause-valid : goal.returns-clause-valid
returns-clause-valid c =
    let format = c.args.format in
    let s = c.args.settings.now in
    let dots : c.if-has_dots.lone_dpi ≡ (has_dots format && is_none s.module_um) = grind (arith, common_steps) in
    let inverted : (not s.inverted || can_be_inverted format) ≡ true = grind (arith, common_steps) in
    let millimetres : allows (has_millimetres format) 50 10000 s.module_um ≡ true =
    sym (c.allows-sized.ensures ∙ ap (λ (b : Bool). allows b 50 10000 s.module_um) c.has_millimetres-millimetres.ensures) ∙ c.in_ok-require-3.ensures.valid in
    let dpi : allows (has_dots format && is_none s.module_um) 500 24000 s.dpi_tenths ≡ true =
    sym (c.allows-dotted.ensures ∙ ap (λ (b : Bool). allows b 500 24000 s.dpi_tenths) dots) ∙ c.in_ok-require-4.ensures.valid in
    let place : allows_position (has_position format) s.at ≡ true =
    sym (c.allows_position.ensures ∙ ap (λ (b : Bool). allows_position b s.at) c.has_position.ensures) ∙ c.in_ok-require-8.ensures.valid in
    let left : first_failed (setting_tests format s) ≡ first_failed (printer_tests format s) =
    all_passed format s (sym c.allows.ensures ∙ c.in_ok-require.ensures.valid) (sym c.allows-2.ensures ∙ c.in_ok-require-2.ensures.valid)
    millimetres dpi inverted (sym c.allows_title.ensures ∙ c.in_ok-require-6.ensures.valid)
    (sym c.allows_caption.ensures ∙ c.in_ok-require-7.ensures.valid) place in
    ap (λ o. first_of o (first_failed (color_tests format s))) (left ∙ c.in_ok-require_printable.ensures.valid) ∙ c.in_ok-require_colored.ensures.valid
