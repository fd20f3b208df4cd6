-- The sums of the lines so far.
use Rattle.std.proofs.Common.{◌≡◌, ◌<◌, ◌∷◌}
use Rattle.png.specs.Checksums.{sums_from}
use Rattle.png.specs.Pictures.{times}
use Rattle.png.proofs.checksums.add_row.Given as goal

abbrev pub invariant-loop-i : goal.invariant-loop-i
invariant-loop-i l = record {
  low_small : l.low < 65521;
  high_small : l.high < 65521;
  low : l.low ≡ (sums_from l.fn.sums.low l.fn.sums.high (times l.i (0 ∷ l.row))).low;
  high : l.high ≡ (sums_from l.fn.sums.low l.fn.sums.high (times l.i (0 ∷ l.row))).high;
}
