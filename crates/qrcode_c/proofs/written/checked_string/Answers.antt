-- After the check only memory can run out.
use Rattle.qrcode_c.proofs.FirstFaults.{checked_failed}
use Rattle.qrcode_c.proofs.written.checked_string.Goals as goal

pub returns-in-Err-clause-refusal : goal.returns-in-Err-clause-refusal
returns-in-Err-clause-refusal c = checked_failed c.args.text.now _ c.in-Err.ensures.refusal
