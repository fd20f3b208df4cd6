-- Cut at `low` units the segment takes few bits, and at `high` units too many.
use Rattle.qrcode_bits.proofs.Prelude.{◌≡◌, ℕ, ◌+◌, ◌-◌, ◌*◌, ◌<◌, ◌≤◌, bits_before}
use Rattle.std.specs.Prelude.{set}
use Rattle.qrcode_bits.specs.Optimizer.{cut_at}
use Rattle.qrcode_bits.proofs.optimize.firsts.last_of_segment.Given as goal

abbrev pub invariant-loop-high : goal.invariant-loop-high
invariant-loop-high g l = record {
  less : l.low < l.high;
  within : l.whole.begin + l.unit * l.high ≤ l.whole.end;
  fits : 0 < l.low → bits_before (cut_at l.initial.segments l.index (l.whole.begin + l.unit * l.low)) l.version (l.index + 1) ≤ l.limit;
  over : l.limit < bits_before (cut_at l.initial.segments l.index (l.whole.begin + l.unit * l.high)) l.version (l.index + 1);
  moved : (e : ℕ) × (l.segments ≡ set l.initial.segments l.index (record { mode = l.whole.mode; begin = l.whole.begin; end = e }));
  ticked : l.comparisons + 8 * (l.high - l.low) ≤ l.initial.comparisons + 8 * l.initial.high;
}

abbrev pub decreases-loop-high : goal.decreases-loop-high
decreases-loop-high g l = l.high - l.low
