-- No version was found that holds that many bits.
use Rattle.qrcode_bits.proofs.{Prelude.refl, Prelude.inr, Prelude.arith, Choices.none_holds}
use Rattle.qrcode_bits.proofs.bits.choice.find_min_version.Goals as goal

pub returns : goal.returns
returns c = inr (refl, none_holds c.args.length c.args.level c.loop-number.number (omega arith) c.loop-number.invariant)
