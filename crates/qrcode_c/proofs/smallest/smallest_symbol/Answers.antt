-- An error of the smallest symbol of a text is that of the call.
use Rattle.qrcode_c.proofs.TextErrors.{smallest_refused}
use Rattle.qrcode_c.proofs.smallest.smallest_symbol.Goals as goal

pub returns-in-Err-clause-refusal : goal.returns-in-Err-clause-refusal
returns-in-Err-clause-refusal c =
    let text = c.in-Ok.ensures.cases in
    smallest_refused c.args.text.now c.args.options.now c.in_ok-checked.checked _ c.in-Err.error c.core_refusal.result
    c.in_ok-checked.ensures.means c.in_ok-checked.ensures.range text.1 (rw text.0 at c.in-Err.ensures.refusal) c.core_refusal.ensures
