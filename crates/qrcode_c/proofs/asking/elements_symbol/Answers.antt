-- An error of the library is that of the call.
use Rattle.qrcode_c.proofs.CoreErrors.{elements_known, elements_refused}
use Rattle.qrcode_c.proofs.asking.elements_symbol.Goals as goal

pub core_refusal-requires : goal.core_refusal-requires
core_refusal-requires c =
    elements_known c.in_ok-checked.checked _ c.in-Err.error c.in_ok-checked.ensures.range c.in-Err.ensures.refusal

pub returns-in-Err-clause-refusal : goal.returns-in-Err-clause-refusal
returns-in-Err-clause-refusal c =
    elements_refused c.args.elements.now c.args.options.now c.in_ok-checked.checked _ c.in-Err.error c.core_refusal.result
    c.in_ok-checked.ensures.means c.in_ok-checked.ensures.range c.in-Err.ensures.refusal c.core_refusal.ensures
