use Rattle.qrcode_bits.proofs.{Prelude.◌≤◌, Prelude.length, ReadBack.IsReadFrom}
use Rattle.qrcode_bits.proofs.optimize.linear.read_back.Given as goal

abbrev pub invariant-loop-end : goal.invariant-loop-end
invariant-loop-end g l = (l.end ≤ length l.segments) × IsReadFrom l.segments l.fn.version l.end l.plan.items

abbrev pub decreases-loop-end : goal.decreases-loop-end
decreases-loop-end g l = l.end
