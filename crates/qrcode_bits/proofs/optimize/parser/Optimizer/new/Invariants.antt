-- The list has what was taken so far.
use Rattle.qrcode_bits.proofs.Prelude.{◌≡◌}
use Rattle.qrcode_bits.proofs.optimize.parser.Optimizer.new.Given as goal

abbrev pub invariant-loop-segment : goal.invariant-loop-segment
invariant-loop-segment g l = l.all.items ≡ l.yielded
