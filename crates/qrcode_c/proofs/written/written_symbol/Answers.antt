-- An error of the library is that of the call.
use Rattle.std.proofs.lemmas.Result.{err_from_is_err_and}
use Rattle.qrcode_c.proofs.CoreErrors.{elements_known, written_refused}
use Rattle.qrcode_c.proofs.FirstFaults.{written_failed}
use Rattle.qrcode_c.proofs.written.written_symbol.Goals as goal

pub core_refusal-requires : goal.core_refusal-requires
core_refusal-requires c =
    elements_known c.in_ok-checked.checked _ c.in-Err.error c.in_ok-checked.ensures.range c.in-Err.ensures.refusal

pub returns-in_err-elements-clause-refusal : goal.returns-in_err-elements-clause-refusal
returns-in_err-elements-clause-refusal c =
    let p = err_from_is_err_and c.from_residual-in_err-elements.result c.from_residual-in_err-elements.ensures.1 in
    let same = c.in-Ok.ensures.cases.0 in
    rw (p.1, p.2) (written_failed c.args.is_checked c.args.text.now c.args.options.now c.in_ok-checked.checked _ _
    c.in_ok-checked.ensures.means c.in_ok-checked.ensures.range (rw same at c.in_err-elements.ensures.refusal))

pub returns-clause-refusal : goal.returns-clause-refusal
returns-clause-refusal c =
    let elements = c.in_ok-elements.elements.items in
    let same = c.in-Ok.ensures.cases.0 in
    written_refused c.args.is_checked c.args.text.now elements c.args.options.now c.in_ok-checked.checked _ c.in-Err.error c.core_refusal.result
    c.in_ok-checked.ensures.means c.in_ok-checked.ensures.range (rw same at c.in_ok-elements.ensures.faultless)
    (rw same at c.in_ok-elements.ensures.found) c.in_ok-elements.ensures.elements
    (rw c.deref.ensures.value at c.in-Err.ensures.refusal) c.core_refusal.ensures
