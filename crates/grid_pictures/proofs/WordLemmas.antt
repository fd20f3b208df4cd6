-- The bits of eight modules, moved together within a word.
use Rattle.std.proofs.Common.{◌≡◌, ℕ, zero, suc, ◌+◌, ◌-◌, ◌*◌, ◌/◌, ◌^◌, ◌<◌, ◌≤◌, Bool, true, false, List, [], ◌∷◌, take, drop, length, get_or, map, refl}
use Rattle.std.proofs.Common.{sym, ap, ◌∙◌, arith}
use Rattle.std.specs.Prelude.{◌==◌, ◌&&◌, bit_and, bit_or, fold}
use Rattle.std.proofs.lemmas.Bool.{eqb-true}
use Rattle.std.proofs.lemmas.List.{get_or-take, get_or-drop}
use Rattle.std.specs.Int.{w64, from_be_bytes}
use Rattle.std.specs.List.{range_with_len}
use Rattle.grid_pictures.specs.Rows.{dark_byte, is_dark_at}
use Rattle.grid_pictures.specs.declared.picture.Row.{Row}
use Rattle.grid_pictures.proofs.BitmapLemmas.{spelled}
use Rattle.grid_pictures.proofs.PackedLemmas.{byte_of, module_at, more_bits, pixel_of}

-- whether all lists of some tests pass
abbrev all_lists : ℕ → (List Bool → Bool) → Bool
all_lists zero test = test []
all_lists (suc n) test = all_lists n (λ l. test (true ∷ l)) && all_lists n (λ l. test (false ∷ l))

both : (a b : Bool) → (a && b) ≡ true → (a ≡ true) × (b ≡ true)
both true true h = (refl, refl)
both true false h = cc
both false b h = cc

at_list : (n : ℕ) (test : List Bool → Bool) → all_lists n test ≡ true → (l : List Bool) → length l ≡ n → test l ≡ true
at_list zero test all [] long = all
at_list zero test all (d ∷ l) long = absurd (omega (arith, long))
at_list (suc n) test all [] long = absurd (omega (arith, long))
at_list (suc n) test all (true ∷ l) long =
    at_list n (λ r. test (true ∷ r)) (both _ _ all).0 l (omega (arith, long))
at_list (suc n) test all (false ∷ l) long =
    at_list n (λ r. test (false ∷ r)) (both _ _ all).1 l (omega (arith, long))

abbrev step : (low high by word : ℕ) → ℕ
step low high by word = bit_or (bit_and word low) (bit_and word high / 2 ^ by)

-- the word of eight bytes, with `scale` bits of each moved together
abbrev pub packed : ℕ → ℕ → ℕ
packed scale word =
    step 0x00000000FFFFFFFF 0xFFFFFFFF00000000 (32 - 4 * scale)
    (step 0x0000FFFF0000FFFF 0xFFFF0000FFFF0000 (16 - 2 * scale)
    (step 0x00FF00FF00FF00FF 0xFF00FF00FF00FF00 (8 - scale) (bit_and word (0x0101010101010101 * (255 / 2 ^ (8 - scale))))))

-- the bits of one module after the other
abbrev appended : ℕ → ℕ → Bool → ℕ
appended scale n dark = n * 2 ^ scale + byte_of dark / 2 ^ (8 - scale)

abbrev is_packed : ℕ → List Bool → Bool
is_packed scale l = packed scale (from_be_bytes w64 (map byte_of l)) == fold (appended scale) 0 l

-- all rows of eight modules, computed
all_packed : (scale : ℕ) → 0 < scale → scale < 8 → all_lists 8 (is_packed scale) ≡ true
all_packed zero some narrow = absurd (omega (arith, some))
all_packed (suc zero) some narrow = refl
all_packed (suc (suc zero)) some narrow = refl
all_packed (suc (suc (suc zero))) some narrow = refl
all_packed (suc (suc (suc (suc zero)))) some narrow = refl
all_packed (suc (suc (suc (suc (suc zero))))) some narrow = refl
all_packed (suc (suc (suc (suc (suc (suc zero)))))) some narrow = refl
all_packed (suc (suc (suc (suc (suc (suc (suc zero))))))) some narrow = refl
all_packed (suc (suc (suc (suc (suc (suc (suc (suc n)))))))) some narrow = absurd (omega (arith, narrow))

abbrev pub eight : {A : Type 0} → (ℕ → A) → List A
eight f = f 0 ∷ f 1 ∷ f 2 ∷ f 3 ∷ f 4 ∷ f 5 ∷ f 6 ∷ f 7 ∷ []

abbrev after : ℕ → (ℕ → Bool) → ℕ → ℕ
after scale d zero = 0
after scale d (suc k) = appended scale (after scale d k) (d k)

-- the bits of the first modules from a column on
after_is : (row : Row) (column scale k : ℕ) → 0 < scale → scale < 8 →
    after scale (λ i. is_dark_at row (column + i)) k ≡ spelled (pixel_of row scale) (column * scale) (k * scale)
after_is row column scale zero some narrow =
    let none : 0 * scale ≡ 0 = omega arith in
    ap (spelled (pixel_of row scale) (column * scale)) (sym none)
after_is row column scale (suc k) some narrow =
    let next : (k + 1) * scale ≡ suc k * scale = grind arith in
    more_bits row column scale k _ _ some narrow (after_is row column scale k some narrow) refl
    ∙ ap (spelled (pixel_of row scale) (column * scale)) next

-- the word of the bytes of eight modules
pub packed_is : (row : Row) (column scale : ℕ) (m : ℕ → ℕ) → 0 < scale → scale < 8 →
    ((i : ℕ) → i < 8 → m i ≡ byte_of (is_dark_at row (column + i))) →
    packed scale (from_be_bytes w64 (eight m)) ≡ spelled (pixel_of row scale) (column * scale) (8 * scale)
packed_is row column scale m some narrow are =
    let d : ℕ → Bool = λ i. is_dark_at row (column + i) in
    let bytes : eight m ≡ eight (λ i. byte_of (d i)) =
    rw (
      are 0 (omega arith),
      are 1 (omega arith),
      are 2 (omega arith),
      are 3 (omega arith),
      are 4 (omega arith),
      are 5 (omega arith),
      are 6 (omega arith),
      are 7 (omega arith),
    ) refl in
    let test : is_packed scale (eight d) ≡ true = at_list 8 (is_packed scale) (all_packed scale some narrow) (eight d) refl in
    ap (λ l. packed scale (from_be_bytes w64 l)) bytes
    ∙ eqb-true _ _ test
    ∙ after_is row column scale 8 some narrow

-- the byte of one of eight modules
pub module_within : (row : Row) (modules : List ℕ) (column i : ℕ) → modules ≡ map (dark_byte row) (range_with_len 0 (length modules)) →
    column + 8 ≤ length modules → i < 8 → get_or (take (column + 8 - column) (drop column modules)) i 0 ≡ byte_of (is_dark_at row (column + i))
module_within row modules column i are inside few =
    get_or-take (column + 8 - column) (drop column modules) i 0 (omega (arith, few))
    ∙ get_or-drop column modules i 0
    ∙ module_at row modules (column + i) are (omega (arith, inside, few))
