-- Two characters, or one.
use Rattle.qrcode_bits.proofs.{Prelude.arith, Prelude.rules, Pairs.pairs_step, Pairs.rest_letters}
use Rattle.qrcode_bits.proofs.bits.Bits.push_letters.Goals as goal

pub loop-rest-preserved : goal.loop-rest-preserved
loop-rest-preserved c = search (arith, rules, pairs_step, rest_letters)
