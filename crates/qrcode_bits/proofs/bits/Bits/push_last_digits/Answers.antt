-- Three digits, or those that are left.
use Rattle.qrcode_bits.proofs.{Prelude.common_steps, Prelude.arith, Prelude.All-drop, Digits.digits_step}
use Rattle.qrcode_bits.proofs.bits.Bits.push_last_digits.Goals as goal

pub loop-rest-preserved : goal.loop-rest-preserved
loop-rest-preserved c = grind (arith, common_steps, All-drop, digits_step)
