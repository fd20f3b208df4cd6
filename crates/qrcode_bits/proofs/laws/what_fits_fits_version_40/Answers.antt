use Rattle.qrcode_bits.proofs.Choices.{fits_last}
use Rattle.qrcode_bits.proofs.laws.what_fits_fits_version_40.Goals as goal

pub returns : goal.returns
returns c = λ front number bytes level plan few fits. fits_last front number bytes level plan few fits
