-- No version before this one holds that many bits.
use Rattle.qrcode_bits.proofs.Choices.{HoldsLess}
use Rattle.qrcode_bits.proofs.bits.choice.find_min_version.Given as goal

abbrev pub invariant-loop-number : goal.invariant-loop-number
invariant-loop-number l = HoldsLess l.length l.level l.number
