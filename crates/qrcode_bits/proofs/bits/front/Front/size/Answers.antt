-- The bits of the header, if there is one, and those of the content.
use Rattle.qrcode_bits.proofs.{Prelude.arith, Prelude.length-append, Reading.header-is}
use Rattle.qrcode_bits.proofs.bits.front.Front.size.Goals as goal

pub returns-clause-size : goal.returns-clause-size
returns-clause-size c = grind (arith, header-is, length-append)
