-- An error of the library is that of the call.
use Rattle.qrcode_bits.specs.Frame.{no_front}
use Rattle.std.specs.Option.{option_map}
use Rattle.std.proofs.Common.{ap}
use Rattle.qrcode_c.specs.Faults.{link_refusal}
use Rattle.qrcode_c.proofs.CoreErrors.{options_known, linked_refused}
use Rattle.qrcode_c.proofs.FirstFaults.{no_link, linked_failed}
use Rattle.qrcode_c.proofs.linked.linked_symbol.Goals as goal

pub core_refusal-requires : goal.core_refusal-requires
core_refusal-requires c =
    options_known c.in_ok-checked.checked no_front _ c.in-Err-bytes_with.error c.in_ok-checked.ensures.range c.in-Err-bytes_with.ensures.refusal

pub returns-in-Err-clause-refusal : goal.returns-in-Err-clause-refusal
returns-in-Err-clause-refusal c =
    let same = c.in-Ok.ensures.cases.0 in
    rw c.link_refusal.ensures (linked_failed c.args.text.now c.args.domain.now c.args.options.now c.in_ok-checked.checked _ _
    c.in_ok-checked.ensures.means c.in_ok-checked.ensures.range
    (no_link c.args.text.now c.args.domain.now c.in-Err.error (rw same at c.in-Err.ensures.refusal)))

pub returns-clause-refusal : goal.returns-clause-refusal
returns-clause-refusal c =
    let same = c.in-Ok.ensures.cases.0 in
    linked_refused c.args.text.now c.args.domain.now c.in-Ok-link_of.link.items c.args.options.now c.in_ok-checked.checked _
    c.in-Err-bytes_with.error c.core_refusal.result c.in_ok-checked.ensures.means c.in_ok-checked.ensures.range
    (ap (option_map link_refusal) (rw same at c.in-Ok-link_of.ensures.faultless)) (rw same at c.in-Ok-link_of.ensures.written)
    (rw same at c.in-Ok-link_of.ensures.read) (rw c.deref.ensures.value at c.in-Err-bytes_with.ensures.refusal) c.core_refusal.ensures
