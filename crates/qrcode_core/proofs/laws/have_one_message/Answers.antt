-- The law of one reading.
use Rattle.qrcode_core.proofs.Sequences.{one_message}
use Rattle.qrcode_core.proofs.laws.have_one_message.Goals as goal

pub returns : goal.returns
returns c = one_message
