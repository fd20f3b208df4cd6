-- An error of the library is that of the call.
use Rattle.std.specs.Prelude.{None}
use Rattle.qrcode_bits.specs.Frame.{front_of}
use Rattle.qrcode_bits.specs.declared.bits.front.Content.TheVariants.{Text}
use Rattle.qrcode_c.proofs.CoreErrors.{options_known, text_refused}
use Rattle.qrcode_c.proofs.asking.text_symbol.Goals as goal

pub core_refusal-requires : goal.core_refusal-requires
core_refusal-requires c =
    let text = c.in-Ok.ensures.cases in
    options_known c.in_ok-checked.checked (front_of None Text) c.args.text.now c.in-Err.error c.in_ok-checked.ensures.range
    (rw text.0 at c.in-Err.ensures.refusal)

pub returns-in-Err-clause-refusal : goal.returns-in-Err-clause-refusal
returns-in-Err-clause-refusal c =
    let text = c.in-Ok.ensures.cases in
    text_refused c.args.text.now c.args.options.now c.in_ok-checked.checked _ c.in-Err.error c.core_refusal.result
    c.in_ok-checked.ensures.means c.in_ok-checked.ensures.range text.1 (rw text.0 at c.in-Err.ensures.refusal) c.core_refusal.ensures
