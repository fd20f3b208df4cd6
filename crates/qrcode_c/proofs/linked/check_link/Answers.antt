-- The fault is the one that the call for a link finds.
use Rattle.std.proofs.Common.{◌∙◌}
use Rattle.qrcode_c.proofs.FirstFaults.{no_link, no_link_failed, link_place}
use Rattle.qrcode_c.proofs.linked.check_link.Goals as goal

pub returns-clause-refusal : goal.returns-clause-refusal
returns-clause-refusal c =
    let same = c.in-Ok.ensures.cases.0 in
    rw c.link_refusal.ensures (no_link_failed c.args.text.now c.args.domain.now _
    (no_link c.args.text.now c.args.domain.now c.in-Err.error (rw same at c.in-Err.ensures.refusal)))

pub returns-clause-told : goal.returns-clause-told
returns-clause-told c =
    let same = c.in-Ok.ensures.cases.0 in
    λ error valid is.
    c.link_place_of.ensures
    ∙ link_place c.args.text.now c.args.domain.now c.in-Err.error error (rw same at c.in-Err.ensures.refusal) is
