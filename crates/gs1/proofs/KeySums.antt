-- Sums of keys from the left.
use Rattle.std.proofs.Common.{◌≡◌, ℕ, ◌+◌, ◌-◌, ◌*◌, ◌<◌, List, length, drop, get_or, arith, refl}
use Rattle.std.proofs.lemmas.List.{drop_more, length-drop}
use Rattle.gs1.specs.Keys.{pair_sum, primes, character_value, remainder, remainder_more}

-- What the character at a place adds.
pub pair_sum_more : (xs : List ℕ) (i : ℕ) → i < length xs →
    pair_sum (drop i xs) ≡
    get_or primes (length xs - 1 - i) 0 * character_value (get_or xs i 0) + pair_sum (drop (i + 1) xs)
pair_sum_more xs i within =
    let rest : length (drop (i + 1) xs) ≡ length xs - 1 - i = omega (arith, length-drop (i + 1) xs) in
    rw (drop_more xs i 0 within, rest) refl

-- The remainder with the character at a place.
pub remainder_at : (rest : ℕ) (xs : List ℕ) (i : ℕ) → i < length xs →
    remainder rest (drop i xs) ≡ remainder (remainder_more rest (get_or xs i 0)) (drop (i + 1) xs)
remainder_at rest xs i within = rw (drop_more xs i 0 within) refl
