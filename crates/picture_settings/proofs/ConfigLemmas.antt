-- The first element of a list that passes a test, from a place on.
use Rattle.std.proofs.Common.{◌≡◌, ℕ, suc, ◌<◌, Bool, false, List, drop, length, get_or, drop-cons, refl}
use Rattle.std.specs.List.{find}

-- it is not the element at this place, if that does not pass
pub past : {X : Type 0} (p : X → Bool) (xs : List X) (i : ℕ) (d : X) → i < length xs → p (get_or xs i d) ≡ false →
    find p (drop (suc i) xs) ≡ find p (drop i xs)
past p xs i d inside fails = rw (drop-cons xs i d inside, fails) refl
