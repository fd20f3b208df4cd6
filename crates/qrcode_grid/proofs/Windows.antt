-- Windows of a line, each module by its place: four light modules, and the row through the middle
-- of a finder pattern.
use Rattle.qrcode_grid.proofs.Prelude.{◌≡◌, ℕ, ◌+◌, ◌==◌, ◌&&◌, ◌||◌, Bool, true, false, List, [], ◌∷◌, get_or, refl, ap, ◌∙◌, arith, nat_tests, common_steps}
use Rattle.qrcode_grid.specs.Penalty.{has_at, is_finder_like}

pub and_seven : (a b c d e f g a' b' c' d' e' f' g' : Bool) → a ≡ a' → b ≡ b' → c ≡ c' → d ≡ d' → e ≡ e' → f ≡ f' → g ≡ g'
    → (a && b && c && d && e && f && g) ≡ (a' && b' && c' && d' && e' && f' && g')
and_seven a b c d e f g a' b' c' d' e' f' g' ea eb ec ed ee ef eg = grind (arith, common_steps)

-- four light modules from place k on
abbrev pub are_light : List ℕ → ℕ → Bool
are_light line k = get_or line k 0 == 0 && get_or line (k + 1) 0 == 0 && get_or line (k + 2) 0 == 0 && get_or line (k + 3) 0 == 0

-- dark, light, three dark, light, dark from place k on
abbrev pub is_pattern : List ℕ → ℕ → Bool
is_pattern line k =
    get_or line k 0 == 1 && get_or line (k + 1) 0 == 0 && get_or line (k + 2) 0 == 1 && get_or line (k + 3) 0 == 1 && get_or line (k + 4) 0 == 1
    && get_or line (k + 5) 0 == 0 && get_or line (k + 6) 0 == 1

-- each module by its place from k on
has_light : (line : List ℕ) (k : ℕ) → has_at line k (0 ∷ 0 ∷ 0 ∷ 0 ∷ []) ≡ are_light line k
has_light line k = grind (arith, common_steps, nat_tests)

regrouped : (a b c d e f g : Bool) → (a && (b && (c && (d && (e && (f && (g && true))))))) ≡ (a && b && c && d && e && f && g)
regrouped a b c d e f g = grind (arith, common_steps)

has_pattern : (line : List ℕ) (k : ℕ) → has_at line k (1 ∷ 0 ∷ 1 ∷ 1 ∷ 1 ∷ 0 ∷ 1 ∷ []) ≡ is_pattern line k
has_pattern line k =
    let is : ℕ → ℕ → Bool = λ m i. get_or line i 0 == m in
    let at : (m i j : ℕ) → i ≡ j → is m i ≡ is m j = λ m i j e. ap (is m) e in
    let next : ℕ → ℕ = λ i. i + 1 in
    let i2 = next (k + 1) in let i3 = next i2 in let i4 = next i3 in let i5 = next i4 in let i6 = next i5 in
    regrouped (is 1 k) (is 0 (k + 1)) (is 1 i2) (is 1 i3) (is 1 i4) (is 0 i5) (is 1 i6)
    ∙ and_seven (is 1 k) (is 0 (k + 1)) (is 1 i2) (is 1 i3) (is 1 i4) (is 0 i5) (is 1 i6) (is 1 k) (is 0 (k + 1)) (is 1 (k + 2)) (is 1 (k + 3))
    (is 1 (k + 4)) (is 0 (k + 5)) (is 1 (k + 6)) refl refl (at 1 i2 (k + 2) (omega arith)) (at 1 i3 (k + 3) (omega arith))
    (at 1 i4 (k + 4) (omega arith)) (at 0 i5 (k + 5) (omega arith)) (at 1 i6 (k + 6) (omega arith))

pub window_is : (line : List ℕ) (k : ℕ) → is_finder_like line k ≡ (is_pattern line (k + 4) && (are_light line k || are_light line (k + 11)))
window_is line k = grind (arith, has_pattern, has_light)

pub no_pattern : (line : List ℕ) (k : ℕ) → get_or line (k + 4 + 6) 0 ≡ 0 → is_finder_like line k ≡ false
no_pattern line k e = grind (arith, common_steps, window_is, nat_tests)
