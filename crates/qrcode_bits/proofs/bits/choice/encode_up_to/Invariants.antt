-- No plan fits a version from the least one on and before the candidates that are left.
use Rattle.qrcode_bits.proofs.Prelude.{length, drop, front_bits}
use Rattle.qrcode_bits.proofs.Classes.{IsSearched}
use Rattle.qrcode_bits.proofs.bits.choice.encode_up_to.Given as goal

abbrev pub invariant-loop-last : goal.invariant-loop-last
invariant-loop-last l = IsSearched l.least (length (front_bits l.front)) l.parsed l.level l.limit (drop l.last-index l.last-items)
