-- The link is written, or there is none, or the buffer is too short for it.
use Rattle.std.proofs.Common.{arith}
use Rattle.qrcode_c.proofs.FirstFaults.{no_link, link_text_failed, link_held, link_refused}
use Rattle.qrcode_c.proofs.linked.write_link.Goals as goal

pub returns-in-Err-clause-refusal : goal.returns-in-Err-clause-refusal
returns-in-Err-clause-refusal c =
    let same = c.in-Ok.ensures.cases.0 in
    rw c.link_refusal.ensures (link_text_failed c.args.text.now c.args.domain.now _ _ _
    (no_link c.args.text.now c.args.domain.now c.in-Err.error (rw same at c.in-Err.ensures.refusal)))

pub returns-clause-held : goal.returns-clause-held
returns-clause-held c =
    let same = c.in-Ok.ensures.cases.0 in
    link_held c.write_bytes.result c.args.text.now c.args.domain.now c.args.buffer.now c.write_bytes.new.buffer c.in-Ok-link_of.link.items
    c.deref.result.now c.len.result
    (rw same at c.in-Ok-link_of.ensures.faultless, rw same at c.in-Ok-link_of.ensures.written, rw same at c.in-Ok-link_of.ensures.read)
    (omega (arith, c.len.ensures, c.in-Ok-link_of.link.ok)) c.deref.ensures.value c.write_bytes.ensures.written

pub returns-clause-refusal : goal.returns-clause-refusal
returns-clause-refusal c =
    let same = c.in-Ok.ensures.cases.0 in
    link_refused c.write_bytes.result c.args.text.now c.args.domain.now c.args.buffer.now c.in-Ok-link_of.link.items
    c.deref.result.now c.len.result
    (rw same at c.in-Ok-link_of.ensures.faultless, rw same at c.in-Ok-link_of.ensures.written, rw same at c.in-Ok-link_of.ensures.read)
    (omega (arith, c.len.ensures, c.in-Ok-link_of.link.ok)) c.deref.ensures.value c.write_bytes.ensures.short c.write_bytes.ensures.short_buffer
