-- The rows before this one are multiples.
use Rattle.qrcode_grid.proofs.Prelude.{◌≡◌, ℕ, ◌<◌, length, get_or, [], product}
use Rattle.std.specs.List.{All}
use Rattle.qrcode_grid.proofs.ec.field.multiples.Given as goal

abbrev pub invariant-loop-i : goal.invariant-loop-i
invariant-loop-i l = record {
  size : length l.rows ≡ 16;
  lanes : All (λ row. length row ≡ 32) l.rows;
  cells : (k j : ℕ) → k < l.i → j < 32 → get_or (get_or l.rows k []) j 0 ≡ product k (get_or l.terms j 0);
}
