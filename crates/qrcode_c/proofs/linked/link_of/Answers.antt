-- Of a domain that is not UTF-8 there is no link, and the faults are those of an empty one.
use Rattle.qrcode_c.proofs.LinkMemory.{as_nothing, none_written, refused_all}
use Rattle.qrcode_c.proofs.linked.link_of.Goals as goal

pub returns-in-Err-clause-written : goal.returns-in-Err-clause-written
returns-in-Err-clause-written c =
    none_written c.digital_link-in-Err.result c.args.text.now _ c.digital_link-in-Err.ensures.faultless

pub returns-in-Err-clause-faultless : goal.returns-in-Err-clause-faultless
returns-in-Err-clause-faultless c =
    none_written c.digital_link-in-Err.result c.args.text.now _ c.digital_link-in-Err.ensures.faultless

pub returns-in-Err-clause-refusal : goal.returns-in-Err-clause-refusal
returns-in-Err-clause-refusal c =
    refused_all c.digital_link-in-Err.result c.args.text.now c.args.domain.now (as_nothing c.args.text.now c.args.domain.now c.in-Err.ensures.cases.0)
    c.digital_link-in-Err.ensures.refusal
