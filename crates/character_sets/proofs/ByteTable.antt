-- Each character of the parts has the byte that is looked up.
use Rattle.std.proofs.Common.{◌≡◌, ℕ, zero, suc, ◌+◌, ◌-◌, ◌*◌, ◌/◌, ◌%◌, ◌<◌, ◌≤◌, Bool, true}
use Rattle.std.proofs.Common.{false, ◌&&◌, ◌||◌, ◌==◌, nat_lt, nat_le, cond}
use Rattle.std.proofs.Common.{◌⊎◌, inl, inr, lt-ltb, le-ltb, List, [], ◌∷◌, refl, get_or, ap, sym}
use Rattle.std.proofs.Common.{subst, ◌∙◌, arith, ltb-true, leb-true, eqb-true}
use Rattle.std.specs.Prelude.{Option, None, Some, if◌then◌else◌}
use Rattle.std.proofs.lemmas.Bool.{and_parts, cond-true, cond-false}
use Rattle.std.proofs.lemmas.Grind.{common_steps}
use Rattle.character_sets.specs.Kanji.{character_in}
use Rattle.character_sets.proofs.KanjiTails.{tails, deep, deep_is}
use Rattle.character_sets.proofs.KanjiTable.{at_number}
use Rattle.qrcode_base.specs.Characters.{is_between}
use Rattle.character_sets.specs.declared.byte_codes.TheConstants.{CODES}
use Rattle.character_sets.specs.declared.iso8859.TheConstants.{PARTS}
use Rattle.character_sets.specs.declared.byte_places.TheConstants.{PLACES}
use Rattle.character_sets.specs.Bytes.{ascii_character, character_of_byte, common_character}
use Rattle.character_sets.specs.Bytes.{is_part, part_character, shift_jis_character, HaveOneByte}
use Rattle.character_sets.specs.ByteSearch.{byte_in, byte_candidate_of}

-- ---- The table, computed

-- The character at a place of the table is beyond ASCII, and has its byte.
unfoldable is_found : List (List ℕ) → List (List ℕ) → ℕ → ℕ → Bool
is_found places codes n c =
    let place = 16 * (deep places (c / 16) + c % 16) + n / 96 in
    nat_le 0x80 c && (nat_lt c 9216 && (nat_lt place 9088 && (deep codes place == 0xa0 + n % 96)))

-- So has each character in a part of the table that begins at `n`.
unfoldable all_found : List (List ℕ) → List (List ℕ) → ℕ → List ℕ → Bool
all_found places codes n [] = true
all_found places codes n (c ∷ cs) =
    cond (c == 0x20) true (is_found places codes n c) && all_found places codes (suc n) cs

table_found : all_found (tails 9 PLACES) (tails 142 CODES) 0 PARTS ≡ true
unfolding all_found is_found tails
table_found = refl

-- ---- What it says

stands : (places codes : List (List ℕ)) (n : ℕ) (cs : List ℕ) (k c : ℕ) → all_found places codes n cs ≡ true →
    get_or cs k 0x20 ≡ c → (c == 0x20) ≡ false → is_found places codes (n + k) c ≡ true
unfolding all_found
stands places codes n [] k c h at some =
    absurd (let e : (0x20 == 0x20) ≡ false = subst (λ x. (x == 0x20) ≡ false) (sym at) some in cc)
stands places codes n (x ∷ cs) zero c h at some =
    let here = (and_parts _ _ h).0 in
    let test : is_found places codes n x ≡ true =
    sym (cond-false (x == 0x20) true (is_found places codes n x) (subst (λ y. (y == 0x20) ≡ false) (sym at) some)) ∙ here in
    let e : n ≡ n + zero = omega arith in
    subst (λ m. is_found places codes m c ≡ true) e (subst (λ y. is_found places codes n y ≡ true) at test)
stands places codes n (x ∷ cs) (suc k) c h at some =
    let e : suc n + k ≡ n + suc k = omega arith in
    subst (λ m. is_found places codes m c ≡ true) e (stands places codes (suc n) cs k c (and_parts _ _ h).1 at some)

-- A character at a place of the table.
record Found (n c : ℕ) : Type 0 where
  beyond : 0x80 ≤ c
  byte : get_or CODES (16 * (get_or PLACES (c / 16) 0 + c % 16) + n / 96) 0 ≡ 0xa0 + n % 96

by_places : (places codes : List ℕ) (n c : ℕ) → is_found (tails 9 places) (tails 142 codes) n c ≡ true →
    (0x80 ≤ c) × (c < 9216) × (get_or codes (16 * (get_or places (c / 16) 0 + c % 16) + n / 96) 0 ≡ 0xa0 + n % 96)
unfolding is_found
by_places places codes n c h =
    let place = 16 * (deep (tails 9 places) (c / 16) + c % 16) + n / 96 in
    let is = deep (tails 142 codes) place == 0xa0 + n % 96 in
    let whole = and_parts (nat_le 0x80 c) (nat_lt c 9216 && (nat_lt place 9088 && is)) h in
    let rest = and_parts (nat_lt c 9216) (nat_lt place 9088 && is) whole.1 in
    let last = and_parts (nat_lt place 9088) is rest.1 in
    let low : c < 9216 = ltb-true c 9216 rest.0 in
    let first : deep (tails 9 places) (c / 16) ≡ get_or places (c / 16) 0 = deep_is 9 (c / 16) places (omega arith) in
    let within : place < 9088 = ltb-true place 9088 last.0 in (
      leb-true 0x80 c whole.0,
      low,
      ap (λ k. get_or codes (16 * (k + c % 16) + n / 96) 0) (sym first)
          ∙ sym (deep_is 142 place codes (omega arith)) ∙ eqb-true (deep (tails 142 codes) place) (0xa0 + n % 96) last.1,
    )

pub found : (n c : ℕ) → character_in PARTS n ≡ Some c →
    (0x80 ≤ c) × (c < 9216) × (get_or CODES (16 * (get_or PLACES (c / 16) 0 + c % 16) + n / 96) 0 ≡ 0xa0 + n % 96)
found n c h =
    let at = at_number PARTS n c h in
    let e : 0 + n ≡ n = omega arith in
    by_places PLACES CODES n c (subst (λ m. is_found (tails 9 PLACES) (tails 142 CODES) m c ≡ true) e
    (stands (tails 9 PLACES) (tails 142 CODES) 0 PARTS n c table_found at.0 at.1))

-- ---- The byte of a character

-- A character is looked up: ASCII is itself, and others have their byte.
abbrev pub LooksUp : ℕ → ℕ → ℕ → Type 0
LooksUp looked byte c = ((c ≡ byte) × (c < 0x80)) ⊎ ((0x80 ≤ c) × (looked ≡ byte))

pub ascii_is : (byte c : ℕ) → ascii_character byte ≡ Some c → (c ≡ byte) × (c < 0x80)
ascii_is byte c h = grind (arith, common_steps)

pub if_is : (b : Bool) (x y : Option ℕ) (c : ℕ) → (if b then x else y) ≡ Some c → ((b ≡ true) × (x ≡ Some c)) ⊎ ((b ≡ false) × (y ≡ Some c))
if_is true x y c h = inl (refl, h)
if_is false x y c h = inr (refl, h)

in_part : (designator byte c : ℕ) → 0xa0 ≤ byte → byte ≤ 0xff → character_in PARTS (96 * (designator - 3) + (byte - 0xa0)) ≡ Some c →
    (0x80 ≤ c) × (byte_in PLACES CODES designator c ≡ byte)
in_part designator byte c low high h =
    let n = 96 * (designator - 3) + (byte - 0xa0) in
    let f = found n c h in
    let row : n / 96 ≡ designator - 3 = omega (arith, low, high) in
    let at : 0xa0 + n % 96 ≡ byte = omega (arith, low, high) in
    (f.0, ap (λ k. get_or CODES (16 * (get_or PLACES (c / 16) 0 + c % 16) + k) 0) (sym row) ∙ f.2 ∙ at)

pub part_is : (designator byte c : ℕ) → part_character designator byte ≡ Some c → LooksUp (byte_in PLACES CODES designator c) byte c
unfolding part_character
part_is designator byte c h =
    elim (if_is (is_between 0xa0 0xff byte) (character_in PARTS (96 * (designator - 3) + (byte - 0xa0))) (ascii_character byte) c h) [
      | inl w ↦
          let ends = and_parts (nat_le 0xa0 byte) (nat_le byte 0xff) w.0 in
          inr (in_part designator byte c (leb-true 0xa0 byte ends.0) (leb-true byte 0xff ends.1) w.1)
      | inr w ↦ inl (ascii_is byte c w.1)
    ]

kana_is : (byte c : ℕ) → shift_jis_character byte ≡ Some c → LooksUp ((c - 0xfec0) % 256) byte c
kana_is byte c h =
    elim (if_is (is_between 0xa1 0xdf byte) (Some (0xff61 + (byte - 0xa1))) (common_character byte) c h) [
      | inl w ↦
          let ends = and_parts (nat_le 0xa1 byte) (nat_le byte 0xdf) w.0 in
          let low = leb-true 0xa1 byte ends.0 in
          let high = leb-true byte 0xdf ends.1 in
          let e : 0xff61 + (byte - 0xa1) ≡ c = cc in
          inr (omega arith, omega arith)
      | inr w ↦
          elim (if_is ((byte == 0x5c) || (byte == 0x7e)) None (ascii_character byte) c w.1) [
            | inl v ↦ absurd (let e : None ≡ Some c = v.1 in cc)
            | inr v ↦ inl (ascii_is byte c v.1)
          ]
    ]

low_candidate : (designator c : ℕ) → c < 0x80 → byte_candidate_of (Some designator) c ≡ c
unfolding byte_candidate_of
low_candidate designator c h = cond-true (nat_lt c 0x80) c _ (lt-ltb c 0x80 h)

kana_candidate : (designator c : ℕ) → 0x80 ≤ c → (designator == 20) ≡ true → byte_candidate_of (Some designator) c ≡ (c - 0xfec0) % 256
unfolding byte_candidate_of
kana_candidate designator c h e =
    cond-false (nat_lt c 0x80) c _ (le-ltb c 0x80 h) ∙ cond-true (designator == 20) ((c - 0xfec0) % 256) _ e

part_candidate : (designator c : ℕ) → 0x80 ≤ c → (designator == 20) ≡ false → byte_candidate_of (Some designator) c ≡ byte_in PLACES CODES designator c
unfolding byte_candidate_of
part_candidate designator c h e =
    cond-false (nat_lt c 0x80) c _ (le-ltb c 0x80 h) ∙ cond-false (designator == 20) ((c - 0xfec0) % 256) _ e

plain_candidate : (byte c : ℕ) → c ≡ byte → c < 0x80 → byte_candidate_of None c ≡ byte
unfolding byte_candidate_of
plain_candidate byte c e h = omega arith

-- A part has not the designator of Shift JIS.
no_part : (designator : ℕ) → is_part designator ≡ true → (designator == 20) ≡ false
no_part designator h = grind (arith, common_steps)

pub is_candidate : (designator : Option ℕ) (byte c : ℕ) → character_of_byte designator byte ≡ Some c → byte_candidate_of designator c ≡ byte
unfolding character_of_byte
is_candidate None byte c h = let a = ascii_is byte c h in plain_candidate byte c a.0 a.1
is_candidate (Some designator) byte c h =
    elim (if_is (is_part designator) (part_character designator byte) _ c h) [
      | inl w ↦
          elim (part_is designator byte c w.1) [
            | inl low ↦ low_candidate designator c low.1 ∙ low.0
            | inr high ↦ part_candidate designator c high.0 (no_part designator w.0) ∙ high.1
          ]
      | inr w ↦
          elim (if_is (designator == 20) (shift_jis_character byte) _ c w.1) [
            | inl v ↦
                elim (kana_is byte c v.1) [
                  | inl low ↦ low_candidate designator c low.1 ∙ low.0
                  | inr high ↦ kana_candidate designator c high.0 v.0 ∙ high.1
                ]
            | inr v ↦
                elim (if_is (designator == 26) (ascii_character byte) None c v.1) [
                  | inl u ↦ let low = ascii_is byte c u.1 in low_candidate designator c low.1 ∙ low.0
                  | inr u ↦ absurd (let e : None ≡ Some c = u.1 in cc)
                ]
          ]
    ]

pub one_byte : HaveOneByte
one_byte designator c first second h k = sym (is_candidate designator first c h) ∙ is_candidate designator second c k
