-- The weight of the segments so far and of those that are left is that of all.
use Rattle.std.proofs.Common.{◌≡◌, ◌+◌, drop}
use Rattle.qrcode_bits.proofs.Weights.{weight}
use Rattle.smallest_symbols.proofs.byte_needed.needed_bits.Given as goal

abbrev pub invariant-loop-s : goal.invariant-loop-s
invariant-loop-s l = l.sum + weight (drop l.s-index l.segments) ≡ weight l.segments
