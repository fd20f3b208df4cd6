-- The sums are those of the bytes so far.
use Rattle.std.proofs.Common.{◌≡◌, ◌<◌, ◌≤◌, ◌-◌, length, take}
use Rattle.png.specs.Checksums.{sums_from}
use Rattle.png.proofs.checksums.sums_of_row.Given as goal

abbrev pub invariant-loop-at : goal.invariant-loop-at
invariant-loop-at l = record {
  in_bytes : l.at ≤ length l.bytes;
  low_small : l.sums.low < 65521;
  high_small : l.sums.high < 65521;
  low : l.sums.low ≡ (sums_from 0 0 (take l.at l.bytes)).low;
  high : l.sums.high ≡ (sums_from 0 0 (take l.at l.bytes)).high;
}

abbrev pub decreases-loop-at : goal.decreases-loop-at
decreases-loop-at l = length l.bytes - l.at
