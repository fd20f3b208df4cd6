use Rattle.qrcode_bits.proofs.Prelude.{◌≡◌, ◌<◌, ◌≤◌, part_mode}
use Rattle.qrcode_bits.proofs.optimize.linear.joined.Given as goal

abbrev pub invariant-loop-i : goal.invariant-loop-i
invariant-loop-i l = record { after : l.start < l.i; within : l.i ≤ l.end; joined : l.mode ≡ part_mode l.segments l.start l.i }
