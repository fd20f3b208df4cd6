-- The bytes of the modules so far are written, and those after them are 0.
use Rattle.std.proofs.Common.{◌≡◌, ℕ, ◌+◌, ◌<◌, ◌≤◌, get_or}
use Rattle.grid_pictures.specs.Rows.{dark_byte}
use Rattle.grid_pictures.proofs.picture.Row.write_bytes.Given as goal

abbrev pub invariant-loop-i : goal.invariant-loop-i
invariant-loop-i l = record {
  written : (k : ℕ) → k < l.quiet + l.i → get_or l.line k 0 ≡ dark_byte l.self k;
  left : (k : ℕ) → l.quiet + l.i ≤ k → get_or l.line k 0 ≡ 0;
}
