-- The part up to the place of index `low` fits, and no part from that of index `high` on.
use Rattle.std.proofs.Common.{ℕ, ◌-◌, ◌<◌, ◌≤◌, length}
use Rattle.std.specs.Prelude.{slice_index_or}
use Rattle.smallest_symbols.specs.TextCuts.{IsPartFromTooLong}
use Rattle.smallest_symbols.proofs.text_cuts.last_fitting.Given as goal

abbrev pub invariant-loop-high : goal.invariant-loop-high
invariant-loop-high l = record {
  from : l.first ≤ l.low;
  order : l.low < l.high;
  inside : l.high ≤ length l.places;
  fits : IsPartFromTooLong l.manner l.text l.level l.limit (slice_index_or l.places l.first 0) (slice_index_or l.places l.low 0) → ⊥;
  after : (i : ℕ) → l.high ≤ i → i < length l.places →
      IsPartFromTooLong l.manner l.text l.level l.limit (slice_index_or l.places l.first 0) (slice_index_or l.places i 0);
}

abbrev pub decreases-loop-high : goal.decreases-loop-high
decreases-loop-high l = l.high - l.low
