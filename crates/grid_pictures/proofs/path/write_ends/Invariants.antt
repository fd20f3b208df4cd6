-- The runs of the modules from the last one down to here have their ends.
use Rattle.std.proofs.Common.{◌≡◌, ◌-◌, ◌≤◌, ◌<◌, ℕ, length, slice_index}
use Rattle.grid_pictures.specs.Runs.{EndsRun}
use Rattle.grid_pictures.proofs.path.write_ends.Given as goal

abbrev pub invariant-loop-i : goal.invariant-loop-i
invariant-loop-i l = record {
  long : length l.ends ≡ length l.fn.ends;
  last : slice_index l.ends l.columns ≡ l.columns;
  first : l.i ≡ 0 → l.end ≡ l.columns;
  here : 0 < l.i → EndsRun l.modules l.columns (l.columns - l.i) l.end;
  runs : (k : ℕ) → l.columns - l.i ≤ k → k < l.columns → EndsRun l.modules l.columns k (slice_index l.ends k);
}
