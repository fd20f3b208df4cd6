-- Each character of the table is found, and its number is that of two bytes.
use Rattle.std.proofs.Common.{◌≡◌, ℕ, zero, suc, ◌+◌, ◌/◌, ◌%◌, ◌<◌, ◌≤◌, Bool, true, false, ◌&&◌}
use Rattle.std.proofs.Common.{◌==◌, nat_lt, cond}
use Rattle.std.proofs.Common.{List, [], ◌∷◌, refl, get_or, ap, sym, subst, ◌∙◌, arith, ltb-true}
use Rattle.std.proofs.Common.{eqb-true}
use Rattle.std.specs.Prelude.{Option, None, Some, is_some, if◌then◌else◌}
use Rattle.std.proofs.lemmas.Bool.{and_parts, cond-false}
use Rattle.std.proofs.lemmas.Grind.{common_steps}
use Rattle.character_sets.specs.declared.kanji_table.TheConstants.{CHARACTERS}
use Rattle.character_sets.specs.declared.kanji_numbers.TheConstants.{NUMBERS}
use Rattle.character_sets.specs.declared.kanji_places.TheConstants.{PLACES}
use Rattle.character_sets.specs.Kanji.{character_in, character_of, is_shift_jis_pair, pair_number}
use Rattle.character_sets.specs.Kanji.{HaveOneNumber}
use Rattle.character_sets.proofs.KanjiTails.{tails, deep, deep_is}
use Rattle.character_sets.specs.KanjiSearch.{candidate_of, number_in}

-- ---- The table, computed

-- A code point has this number.
unfoldable is_found : List (List ℕ) → List (List ℕ) → ℕ → ℕ → Bool
is_found places numbers n c =
    let place = deep places (c / 16) + c % 16 in
    nat_lt c 65536 && (nat_lt place 6976 && (deep numbers place == n))

-- The two bytes of a number.
abbrev lead_of : ℕ → ℕ
lead_of n = (if nat_lt (n / 192) 31 then 0x81 else 0xc1) + n / 192

abbrev pub trail_of : ℕ → ℕ
trail_of n = 0x40 + n % 192

-- A number has two bytes.
abbrev has_pair : ℕ → Bool
has_pair n = nat_lt n 8064 && is_shift_jis_pair (lead_of n) (trail_of n)

-- Each character in a part of the table that begins at `n` has its number, and that two bytes.
unfoldable all_found : List (List ℕ) → List (List ℕ) → ℕ → List ℕ → Bool
all_found places numbers n [] = true
all_found places numbers n (c ∷ cs) =
    cond (c == 0x20) true (is_found places numbers n c && has_pair n)
    && all_found places numbers (suc n) cs

table_found : all_found (tails 64 PLACES) (tails 109 NUMBERS) 0 CHARACTERS ≡ true
unfolding all_found is_found tails
table_found = refl

-- ---- What it says

-- A character at a place of the table.
record Stands (places numbers : List (List ℕ)) (n c : ℕ) : Type 0 where
  found : is_found places numbers n c ≡ true
  pair : has_pair n ≡ true

stands : (places numbers : List (List ℕ)) (n : ℕ) (cs : List ℕ) (k c : ℕ) → all_found places numbers n cs ≡ true →
    get_or cs k 0x20 ≡ c → (c == 0x20) ≡ false → Stands places numbers (n + k) c
unfolding all_found
stands places numbers n [] k c h at some =
    absurd (let e : (0x20 == 0x20) ≡ false = subst (λ x. (x == 0x20) ≡ false) (sym at) some in cc)
stands places numbers n (x ∷ cs) zero c h at some =
    let here = (and_parts _ _ h).0 in
    let test : is_found places numbers n x && has_pair n ≡ true =
    sym (cond-false (x == 0x20) true (is_found places numbers n x && has_pair n) (subst (λ y. (y == 0x20) ≡ false) (sym at) some))
    ∙ here in
    let parts = and_parts (is_found places numbers n x) (has_pair n) test in
    let e : n ≡ n + zero = omega arith in
    subst (λ m. Stands places numbers m c) e (subst (λ y. Stands places numbers n y) at (record { found = parts.0; pair = parts.1 }))
stands places numbers n (x ∷ cs) (suc k) c h at some =
    let e : suc n + k ≡ n + suc k = omega arith in
    subst (λ m. Stands places numbers m c) e (stands places numbers (suc n) cs k c (and_parts _ _ h).1 at some)

-- An element of a table that is no space.
element : (x c : ℕ) → (if x == 0x20 then None else Some x) ≡ Some c → (x ≡ c) × ((c == 0x20) ≡ false)
element x c h = grind (arith, common_steps)

pub at_number : (table : List ℕ) (n c : ℕ) → character_in table n ≡ Some c → (get_or table n 0x20 ≡ c) × ((c == 0x20) ≡ false)
unfolding character_in
at_number table n c h = element (get_or table n 0x20) c h

of_number : (n c : ℕ) → character_of n ≡ Some c → Stands (tails 64 PLACES) (tails 109 NUMBERS) n c
unfolding character_of
of_number n c h =
    let at = at_number CHARACTERS n c h in
    let e : 0 + n ≡ n = omega arith in
    subst (λ m. Stands (tails 64 PLACES) (tails 109 NUMBERS) m c) e
    (stands (tails 64 PLACES) (tails 109 NUMBERS) 0 CHARACTERS n c table_found at.0 at.1)

by_places : (places numbers : List ℕ) (n c : ℕ) → is_found (tails 64 places) (tails 109 numbers) n c ≡ true → number_in places numbers c ≡ n
unfolding is_found
by_places places numbers n c h =
    let place = deep (tails 64 places) (c / 16) + c % 16 in
    let whole = and_parts (nat_lt c 65536) (nat_lt place 6976 && (deep (tails 109 numbers) place == n)) h in
    let rest = and_parts (nat_lt place 6976) (deep (tails 109 numbers) place == n) whole.1 in
    let low : c < 65536 = ltb-true c 65536 whole.0 in
    let first : deep (tails 64 places) (c / 16) ≡ get_or places (c / 16) 0 = deep_is 64 (c / 16) places (omega arith) in
    let within : place < 6976 = ltb-true place 6976 rest.0 in
    ap (λ k. get_or numbers (k + c % 16) 0) (sym first)
    ∙ sym (deep_is 109 place numbers (omega arith)) ∙ eqb-true (deep (tails 109 numbers) place) n rest.1

-- The number of a character is the one that is looked up.
pub is_candidate : (n c : ℕ) → character_of n ≡ Some c → candidate_of c ≡ n
unfolding candidate_of
is_candidate n c h = by_places PLACES NUMBERS n c (of_number n c h).found

pub one_number : HaveOneNumber
one_number c n m h k = sym (is_candidate n c h) ∙ is_candidate m c k

-- ---- Its two bytes

lead_low : (n lead : ℕ) → n / 192 < 31 → lead ≡ 0x81 + n / 192 → lead ≡ lead_of n
lead_low n lead low e = grind (arith, common_steps)

lead_high : (n lead : ℕ) → 31 ≤ n / 192 → lead ≡ 0xc1 + n / 192 → lead ≡ lead_of n
lead_high n lead low e = grind (arith, common_steps)

number_low : (n lead trail : ℕ) → n / 192 < 31 → lead ≡ 0x81 + n / 192 → trail ≡ 0x40 + n % 192 → pair_number lead trail ≡ n
unfolding pair_number
number_low n lead trail low e f = grind arith

number_high : (n lead trail : ℕ) → 31 ≤ n / 192 → lead ≡ 0xc1 + n / 192 → trail ≡ 0x40 + n % 192 → pair_number lead trail ≡ n
unfolding pair_number
number_high n lead trail low e f = grind arith

pub paired : (n : ℕ) → is_some (character_of n) ≡ true → (n < 8064) × (is_shift_jis_pair (lead_of n) (trail_of n) ≡ true)
paired n h = some_of (character_of n) refl h
  where
    some_of : (o : Option ℕ) → character_of n ≡ o → is_some o ≡ true → (n < 8064) × (is_shift_jis_pair (lead_of n) (trail_of n) ≡ true)
    some_of (Some c) e h =
        let parts = and_parts (nat_lt n 8064) (is_shift_jis_pair (lead_of n) (trail_of n)) (of_number n c e).pair in
        (ltb-true n 8064 parts.0, parts.1)
    some_of None e h = absurd (cc)

-- The bytes of a number.
pub record IsPairOf (n lead : ℕ) : Type 0 where
  pub pair : is_shift_jis_pair lead (trail_of n) ≡ true
  pub number : pair_number lead (trail_of n) ≡ n

pub pair_low : (n lead : ℕ) → is_some (character_of n) ≡ true → n / 192 < 31 → lead ≡ 0x81 + n / 192 → IsPairOf n lead
pair_low n lead h low e =
    let p = paired n h in
    record {
      pair = subst (λ b. is_shift_jis_pair b (trail_of n) ≡ true) (sym (lead_low n lead low e)) p.1;
      number = number_low n lead (trail_of n) low e refl;
    }

pub pair_high : (n lead : ℕ) → is_some (character_of n) ≡ true → 31 ≤ n / 192 → lead ≡ 0xc1 + n / 192 → IsPairOf n lead
pair_high n lead h high e =
    let p = paired n h in
    record {
      pair = subst (λ b. is_shift_jis_pair b (trail_of n) ≡ true) (sym (lead_high n lead high e)) p.1;
      number = number_high n lead (trail_of n) high e refl;
    }
