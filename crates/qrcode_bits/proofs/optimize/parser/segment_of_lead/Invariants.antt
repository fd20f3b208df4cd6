-- The pairs so far are one run.
use Rattle.qrcode_bits.proofs.Prelude.{◌-◌, ◌<◌, ◌≤◌, length, Pair}
use Rattle.qrcode_bits.proofs.Runs.{IsRun}
use Rattle.qrcode_bits.proofs.optimize.parser.segment_of_lead.Given as goal

abbrev pub invariant-loop-end : goal.invariant-loop-end
invariant-loop-end l = record {
  some : l.begin < l.end;
  inside : l.end ≤ length l.bytes;
  run : IsRun l.bytes Pair l.begin l.end;
}

abbrev pub decreases-loop-end : goal.decreases-loop-end
decreases-loop-end l = length l.bytes - l.end
