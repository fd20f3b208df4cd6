-- The runs of modules of one colour in a row of bytes: 0 is light, and every other byte dark.
use Rattle.std.specs.Prelude.{ℕ, ◌≡◌, ◌<◌, ◌≤◌, List, not, nat_lt, slice_index}

-- The run of the module at index k ends before index `end`, by the first `columns` modules.
pub record EndsRun (modules : List ℕ) (columns k end : ℕ) : Type 0 where
  pub after : k < end
  pub within : end ≤ columns
  pub same : (j : ℕ) → k ≤ j → j < end →
      nat_lt 0 (slice_index modules j) ≡ nat_lt 0 (slice_index modules k)
  pub other : end < columns →
      nat_lt 0 (slice_index modules end) ≡ not (nat_lt 0 (slice_index modules k))
