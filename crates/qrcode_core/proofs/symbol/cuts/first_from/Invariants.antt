-- Places before `low` are near, and those from `high` on are far.
use Rattle.qrcode_core.proofs.Prelude.{ℕ, ◌+◌, ◌-◌, ◌<◌, ◌≤◌, length}
use Rattle.std.specs.Prelude.{slice_index_or}
use Rattle.qrcode_core.proofs.symbol.cuts.first_from.Given as goal

abbrev pub invariant-loop-low : goal.invariant-loop-low
invariant-loop-low l = record {
  from : l.first ≤ l.low;
  order : l.low ≤ l.high;
  inside : l.high ≤ length l.places;
  before : (i : ℕ) → l.first ≤ i → i < l.low → slice_index_or l.places i 0 < slice_index_or l.places l.first 0 + l.size;
  after : (i : ℕ) → l.high ≤ i → i < length l.places → slice_index_or l.places l.first 0 + l.size ≤ slice_index_or l.places i 0;
}

abbrev pub decreases-loop-low : goal.decreases-loop-low
decreases-loop-low l = l.high - l.low
