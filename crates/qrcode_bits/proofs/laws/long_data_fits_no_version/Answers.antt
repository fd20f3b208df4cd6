use Rattle.qrcode_bits.proofs.Lengths.{long_message}
use Rattle.qrcode_bits.proofs.laws.long_data_fits_no_version.Goals as goal

pub returns : goal.returns
returns c = λ front limit bytes level are few long. long_message front bytes level limit few are long
