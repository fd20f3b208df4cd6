-- The first place of a byte.
use Rattle.std.proofs.Common.{◌≡◌, ℕ, Bool, List, length, arith}
use Rattle.std.specs.Prelude.{Option, position, unwrap_or}
use Rattle.std.specs.List.{position_or_len}
use Rattle.std.proofs.lemmas.List.Sums.{prefix_len-le-length}
use Rattle.std.proofs.lemmas.Grind.{common_steps}

-- The first place, or the length, by `position`.
pub place_or_length : (p : ℕ → Bool) (xs : List ℕ) (place : Option ℕ) → place ≡ position p xs →
    unwrap_or place (length xs) ≡ position_or_len p xs
place_or_length p xs place e = grind (arith, common_steps, prefix_len-le-length)
