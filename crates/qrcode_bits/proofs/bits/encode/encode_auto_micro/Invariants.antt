-- No plan fits a smaller version.
use Rattle.qrcode_bits.proofs.Prelude.{micro, FitsNone}
use Rattle.qrcode_bits.proofs.bits.encode.encode_auto_micro.Given as goal

abbrev pub invariant-loop-smaller : goal.invariant-loop-smaller
invariant-loop-smaller l = FitsNone micro 0 l.bytes l.level l.smaller
