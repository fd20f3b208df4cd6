-- The segments so far and those that are left are all.
use Rattle.qrcode_bits.proofs.Prelude.{◌≡◌, ◌-◌, ◌++◌, drop, length, map, run_segment, runs, units}
use Rattle.qrcode_bits.proofs.optimize.parser.segments_from.Given as goal

abbrev pub invariant-loop-at : goal.invariant-loop-at
invariant-loop-at l =
    l.all.items ++ map run_segment (runs l.at (units (drop l.at l.bytes))) ≡ map run_segment (runs l.fn.begin (units (drop l.fn.begin l.bytes)))

abbrev pub decreases-loop-at : goal.decreases-loop-at
decreases-loop-at l = length l.bytes - l.at
