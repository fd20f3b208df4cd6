-- The limit is one of 1 to 40.
use Rattle.qrcode_bits.proofs.{Prelude.arith, Prelude.to_z-of_z, Prelude.IfErr-weaker, Classes.refused_front, Classes.limit_of}
use Rattle.qrcode_bits.proofs.bits.encode.encode_front.Goals as goal

pub returns-clause-err : goal.returns-clause-err
returns-clause-err c = grind (arith, IfErr-weaker, limit_of, refused_front, to_z-of_z)
