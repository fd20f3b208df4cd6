-- An error of the Micro symbol of a text is that of the call.
use Rattle.std.proofs.Common.{◌≡◌, ◌∙◌, sym, w32}
use Rattle.std.proofs.lemmas.Int.{to_z-of_z}
use Rattle.qrcode_c.{specs.Levels.level_argument, proofs.TextErrors.micro_text_refused}
use Rattle.qrcode_c.proofs.smallest.micro_text_symbol.Goals as goal

pub returns-in-Err-clause-refusal : goal.returns-in-Err-clause-refusal
returns-in-Err-clause-refusal c =
    let named : c.args.level ≡ level_argument c.in-Some.level = sym (to_z-of_z w32 c.args.level c.ranges.level) ∙ c.in-Some.ensures.level in
    let text = c.in-Ok.ensures.cases in
    micro_text_refused c.args.text.now c.in-Some.level c.args.level _ c.in-Err.error c.micro_text_refusal.result
    named text.1 (rw text.0 at c.in-Err.ensures.refusal) c.micro_text_refusal.ensures
