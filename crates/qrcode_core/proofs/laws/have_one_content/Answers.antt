-- The law of one reading.
use Rattle.qrcode_core.proofs.OneReading.{one_carried}
use Rattle.qrcode_core.proofs.laws.have_one_content.Goals as goal

pub returns : goal.returns
returns c = one_carried
