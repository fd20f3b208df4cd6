-- The elements of a long list, 64 at a time, so that a computed test reads each in few steps.
use Rattle.std.proofs.Common.{◌≡◌, ℕ, zero, suc, ◌+◌, ◌*◌, ◌/◌, ◌%◌, ◌<◌, List, [], ◌∷◌, refl, drop, get_or, ap, ◌∙◌, arith, drop-drop, get_or-drop}

-- What is left of a list from each multiple of 64 on.
unfoldable pub tails : ℕ → List ℕ → List (List ℕ)
tails zero xs = []
tails (suc n) xs = xs ∷ tails n (drop 64 xs)

-- An element of a list, by what is left of it.
abbrev pub deep : List (List ℕ) → ℕ → ℕ
deep rests k = get_or (get_or rests (k / 64) []) (k % 64) 0

tail_at : (n k : ℕ) (xs : List ℕ) → k < n → get_or (tails n xs) k [] ≡ drop (k * 64) xs
unfolding tails
tail_at zero k xs h = absurd (omega arith)
tail_at (suc n) zero xs h = refl
tail_at (suc n) (suc k) xs h =
    let sum : 64 + k * 64 ≡ suc k * 64 = omega arith in
    tail_at n k (drop 64 xs) (omega arith) ∙ drop-drop (k * 64) 64 xs ∙ ap (λ m. drop m xs) sum

pub deep_is : (n k : ℕ) (xs : List ℕ) → k < n * 64 → deep (tails n xs) k ≡ get_or xs k 0
deep_is n k xs h =
    let sum : k / 64 * 64 + k % 64 ≡ k = omega arith in
    ap (λ (ys : List ℕ). get_or ys (k % 64) 0) (tail_at n (k / 64) xs (omega arith))
    ∙ get_or-drop (k / 64 * 64) xs (k % 64) 0 ∙ ap (λ m. get_or xs m 0) sum
