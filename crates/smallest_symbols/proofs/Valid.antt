-- What is read is valid: the bytes of a segment in its mode, and the numbers of designators.
use Rattle.std.proofs.Common.{◌≡◌, ℕ, ◌+◌, ◌-◌, ◌*◌, ◌/◌, ◌<◌, ◌≤◌, Bool, true, false, ◌||◌, ◌==◌}
use Rattle.std.proofs.Common.{cond, List, [], ◌∷◌, ◌++◌}
use Rattle.std.proofs.Common.{◌⊎◌, inl, inr, refl, sym, ap, subst, ◌∙◌, arith, length}
use Rattle.std.proofs.Common.{length-append}
use Rattle.std.specs.Prelude.{All, Contains, Option, None, Some, chars, if◌then◌else◌}
use Rattle.std.specs.Str.{is_utf8}
use Rattle.std.proofs.lemmas.Bool.{and_parts, leb-true, ltb-true}
use Rattle.std.proofs.lemmas.Grind.{common_steps}
use Rattle.std.proofs.lemmas.List.Elements.{All-append, All-cons, All-nil}
use Rattle.std.proofs.lemmas.Option.{same_Some}
use Rattle.std.proofs.lemmas.Str.{IsUtf8-from_is_utf8, chars-encodes}
use lib.Utf8.{encode, encodes, next, scalar, scalars, scalar_cases}
use lib.Dec.{ltb}
use Rattle.qrcode_base.proofs.Alphabet.{is_alphanumeric-inside}
use Rattle.qrcode_base.specs.Modes.{characters}
use Rattle.qrcode_base.specs.Characters.{IsDigit, IsKanjiText, IsValid, alphabet, is_alphanumeric}
use Rattle.qrcode_base.specs.Characters.{is_between, is_lead}
use Rattle.qrcode_base.specs.declared.types.Mode.{Mode}
use Rattle.qrcode_base.specs.declared.types.Mode.TheVariants.{Numeric, Alphanumeric, Byte, Kanji}
use Rattle.character_sets.specs.Bytes.{ascii_character, character_of_byte, common_character}
use Rattle.character_sets.specs.Bytes.{is_part, part_character, shift_jis_character}
use Rattle.character_sets.specs.Reading.{Part, designator, segment, put, joined, each_of}
use Rattle.character_sets.specs.Reading.{read_kanji, read_shift_jis, read_bytes, read_segment}
use Rattle.character_sets.specs.Reading.{read_parts}
use Rattle.character_sets.specs.Reading.{pair_character, digit_character, alphanumeric_character}
use Rattle.character_sets.specs.Reading.{is_shift_jis, is_known}
use Rattle.character_sets.proofs.Pairs.{pair_says}
use Rattle.character_sets.specs.Kanji.{character_in}
use Rattle.character_sets.specs.declared.iso8859.TheConstants.{PARTS}

-- ---- What two options that are put together say

pub if_cases : {T : Type 0} (b : Bool) (x y : Option T) (t : T) → (if b then x else y) ≡ Some t →
    ((b ≡ true) × (x ≡ Some t)) ⊎ ((b ≡ false) × (y ≡ Some t))
if_cases true x y t h = inl (refl, h)
if_cases false x y t h = inr (refl, h)

pub no_one : {T : Type 0} (t : T) → None ≡ Some t → ⊥
no_one t h = cc

pub test_some : {T : Type 0} (b : Bool) (x : Option T) (t : T) → (if b then x else None) ≡ Some t → (b ≡ true) × (x ≡ Some t)
test_some true x t h = (refl, h)
test_some false x t h = absurd (no_one t h)

pub if_some : {T : Type 0} (b : Bool) (x t : T) → (if b then Some x else None) ≡ Some t → (b ≡ true) × (Some x ≡ Some t)
if_some true x t h = (refl, h)
if_some false x t h = absurd (no_one t h)

pub put_says : (c : Option ℕ) (rest : Option (List ℕ)) (text : List ℕ) → put c rest ≡ Some text →
    (x : ℕ) × (xs : List ℕ) × (c ≡ Some x) × (rest ≡ Some xs) × (text ≡ x ∷ xs)
put_says (Some c) (Some xs) text h = (c, xs, refl, refl, sym (same_Some _ _ h))
put_says None None text h = absurd (no_one text h)
put_says None (Some xs) text h = absurd (no_one text h)
put_says (Some c) None text h = absurd (no_one text h)

pub joined_says : (front rest : Option (List ℕ)) (text : List ℕ) → joined front rest ≡ Some text →
    (xs : List ℕ) × (ys : List ℕ) × (front ≡ Some xs) × (rest ≡ Some ys) × (text ≡ xs ++ ys)
joined_says (Some xs) (Some ys) text h = (xs, ys, refl, refl, sym (same_Some _ _ h))
joined_says None None text h = absurd (no_one text h)
joined_says None (Some ys) text h = absurd (no_one text h)
joined_says (Some xs) None text h = absurd (no_one text h)

-- ---- Bytes

abbrev IsByte : ℕ → Type 0
IsByte c = c < 256

module _ (P : ℕ → Type 0) (character : ℕ → Option ℕ) (right : (byte c : ℕ) → character byte ≡ Some c → P byte) where
  each_valid : (bytes text : List ℕ) → each_of character bytes ≡ Some text → All P bytes × (length text ≤ length bytes)
  unfolding each_of
  each_valid [] text h = let e = same_Some [] text h in (All-nil P, rw (← e) (omega arith))
  each_valid (byte ∷ bytes) text h =
      let w = put_says (character byte) (each_of character bytes) text h in
      let rest = each_valid bytes w.1 w.3 in
      (All-cons P byte bytes (right byte w.0 w.2) rest.0, rw w.4 (omega (arith, rest.1)))

pub within : (low high c : ℕ) → is_between low high c ≡ true → (low ≤ c) × (c ≤ high)
within low high c h = grind (arith, and_parts, leb-true)

ascii_byte : (byte c : ℕ) → ascii_character byte ≡ Some c → byte < 128
ascii_byte byte c h = ltb-true byte 128 (if_some _ _ c h).0

common_byte : (byte c : ℕ) → common_character byte ≡ Some c → byte < 128
common_byte byte c h = elim (if_cases ((byte == 0x5c) || (byte == 0x7e)) None (ascii_character byte) c h) [
  | inl w ↦ absurd (no_one c w.1)
  | inr w ↦ ascii_byte byte c w.1
]

shift_jis_byte : (byte c : ℕ) → shift_jis_character byte ≡ Some c → byte < 256
shift_jis_byte byte c h = elim (if_cases (is_between 0xa1 0xdf byte) (Some (0xff61 + (byte - 0xa1))) (common_character byte) c h) [
  | inl w ↦ (let e = within 0xa1 0xdf byte w.0 in omega (arith, e.1))
  | inr w ↦ (let e = common_byte byte c w.1 in omega (arith, e))
]

part_byte : (number byte c : ℕ) → part_character number byte ≡ Some c → byte < 256
unfolding part_character
part_byte number byte c h =
    elim (if_cases (is_between 0xa0 0xff byte) (character_in PARTS (96 * (number - 3) + (byte - 0xa0))) (ascii_character byte) c h) [
      | inl w ↦ (let e = within 0xa0 0xff byte w.0 in omega (arith, e.1))
      | inr w ↦ (let e = ascii_byte byte c w.1 in omega (arith, e))
    ]

single_byte : (number byte c : ℕ) → character_of_byte (Some number) byte ≡ Some c → byte < 256
unfolding character_of_byte
single_byte number byte c h = elim (if_cases (is_part number) (part_character number byte) _ c h) [
  | inl w ↦ part_byte number byte c w.1
  | inr w ↦ elim (if_cases (number == 20) (shift_jis_character byte) _ c w.1) [
    | inl v ↦ shift_jis_byte byte c v.1
    | inr v ↦ (let u = test_some (number == 26) (ascii_character byte) c v.1 in
        let e = ascii_byte byte c u.1 in omega (arith, e))
  ]
]

pair_bytes : (lead trail c : ℕ) → pair_character lead trail ≡ Some c → (lead < 256) × (trail < 256)
pair_bytes lead trail c h =
    let w = (pair_says lead trail c h).0 in
    (grind (arith, common_steps), grind (arith, common_steps))

shift_jis_valid : (bytes text : List ℕ) → read_shift_jis bytes ≡ Some text → All IsByte bytes × (length text ≤ length bytes)
unfolding read_shift_jis
shift_jis_valid [] text h = let e = same_Some [] text h in (All-nil IsByte, rw (← e) (omega arith))
shift_jis_valid (byte ∷ []) text h =
    let w = put_says (shift_jis_character byte) (Some []) text h in
    let e = same_Some [] w.1 w.3 in
    (All-cons IsByte byte [] (shift_jis_byte byte w.0 w.2) (All-nil IsByte), rw (w.4, ← e) (omega arith))
shift_jis_valid (byte ∷ next ∷ bytes) text h = elim (if_cases (is_lead byte) _ _ text h) [
  | inl k ↦ (let w = put_says (pair_character byte next) (read_shift_jis bytes) text k.1 in
      let p = pair_bytes byte next w.0 w.2 in
      let rest = shift_jis_valid bytes w.1 w.3 in
      (All-cons IsByte byte (next ∷ bytes) p.0 (All-cons IsByte next bytes p.1 rest.0), rw w.4 (omega (arith, rest.1))))
  | inr k ↦ (let w = put_says (shift_jis_character byte) (read_shift_jis (next ∷ bytes)) text k.1 in
      let rest = shift_jis_valid (next ∷ bytes) w.1 w.3 in
      (All-cons IsByte byte (next ∷ bytes) (shift_jis_byte byte w.0 w.2) rest.0, rw w.4 (omega (arith, rest.1))))
]

kanji_valid : (bytes text : List ℕ) → read_kanji bytes ≡ Some text → IsKanjiText bytes × (length text ≤ length bytes / 2)
unfolding read_kanji
kanji_valid [] text h = let e = same_Some [] text h in (tt, rw (← e) (omega arith))
kanji_valid (lead ∷ []) text h = absurd (no_one text h)
kanji_valid (lead ∷ trail ∷ bytes) text h =
    let w = put_says (pair_character lead trail) (read_kanji bytes) text h in
    let rest = kanji_valid bytes w.1 w.3 in
    (((pair_says lead trail w.0 w.2).0, rest.0), rw w.4 (omega (arith, rest.1)))

-- ---- UTF-8

cond_both : {T : Type 0} (P : T → Type 0) (b : Bool) (x y : T) → (b ≡ true → P x) → (b ≡ false → P y) → P (cond b x y)
cond_both P true x y f g = f refl
cond_both P false x y f g = g refl

-- The bytes of a scalar, of which there is at least one.
abbrev AreSomeBytes : List ℕ → Type 0
AreSomeBytes bytes = All IsByte bytes × (1 ≤ length bytes)

one_byte : (a : ℕ) → a < 256 → AreSomeBytes (a ∷ [])
one_byte a h = (All-cons IsByte a [] h (All-nil IsByte), omega arith)

more_bytes : (a : ℕ) (rest : List ℕ) → a < 256 → AreSomeBytes rest → AreSomeBytes (a ∷ rest)
more_bytes a rest h k = (All-cons IsByte a rest h k.0, omega arith)

next_byte : (c : ℕ) → next c < 256
next_byte c = omega arith

encode_valid : (c : ℕ) → c < 1114112 → AreSomeBytes (encode c)
unfolding encode
encode_valid c h =
    cond_both AreSomeBytes (ltb c 128) _ _
    (λ a. let k = ltb-true c 128 a in one_byte c (omega arith))
    (λ a. cond_both AreSomeBytes (ltb c 2048) _ _
    (λ b. let k = ltb-true c 2048 b in more_bytes (192 + c / 64) (next c ∷ []) (omega arith) (one_byte (next c) (next_byte c)))
    (λ b. cond_both AreSomeBytes (ltb c 65536) _ _
    (λ d. let k = ltb-true c 65536 d in
    more_bytes (224 + c / 4096) (next (c / 64) ∷ next c ∷ []) (omega arith)
    (more_bytes (next (c / 64)) (next c ∷ []) (next_byte (c / 64)) (one_byte (next c) (next_byte c))))
    (λ d. more_bytes (240 + c / 262144) (next (c / 4096) ∷ next (c / 64) ∷ next c ∷ []) (omega arith)
    (more_bytes (next (c / 4096)) (next (c / 64) ∷ next c ∷ []) (next_byte (c / 4096))
    (more_bytes (next (c / 64)) (next c ∷ []) (next_byte (c / 64)) (one_byte (next c) (next_byte c)))))))

small_scalar : (c : ℕ) → scalar c ≡ true → c < 1114112
small_scalar c h = elim (scalar_cases c h) [ inl w ↦ omega (arith, w) | inr w ↦ w.1 ]

encodes_valid : (cs : List ℕ) → scalars cs ≡ true → All IsByte (encodes cs) × (length cs ≤ length (encodes cs))
encodes_valid [] h = (All-nil IsByte, omega arith)
encodes_valid (c ∷ cs) h =
    let w = and_parts (scalar c) (scalars cs) h in
    let here = encode_valid c (small_scalar c w.0) in
    let rest = encodes_valid cs w.1 in
    (All-append IsByte (encode c) (encodes cs) here.0 rest.0, omega (arith, here.1, rest.1, length-append (encode c) (encodes cs)))

utf8_valid : (bytes : List ℕ) → is_utf8 bytes ≡ true → All IsByte bytes × (length (chars bytes) ≤ length bytes)
utf8_valid bytes h =
    let w = IsUtf8-from_is_utf8 bytes h in
    let v = encodes_valid w.0 w.1.0 in
    let e : chars bytes ≡ w.0 = ap chars (sym w.1.1) ∙ chars-encodes w.0 w.1.0 in
    (subst (All IsByte) w.1.1 v.0, rw e (subst (λ (z : List ℕ). length w.0 ≤ length z) w.1.1 v.1))

-- ---- Segments

bytes_valid : (mixed : Bool) (force : Option ℕ) (bytes text : List ℕ) → read_bytes mixed force bytes ≡ Some text →
    All IsByte bytes × (length text ≤ length bytes)
unfolding read_bytes
bytes_valid true None bytes text h = each_valid IsByte common_character (λ byte c e. let k = common_byte byte c e in omega arith) bytes text h
bytes_valid false None bytes text h = each_valid IsByte ascii_character (λ byte c e. let k = ascii_byte byte c e in omega arith) bytes text h
bytes_valid mixed (Some number) bytes text h = elim (if_cases (number == 20) (read_shift_jis bytes) _ text h) [
  | inl w ↦ shift_jis_valid bytes text w.1
  | inr w ↦ elim (if_cases (number == 26) _ (each_of (character_of_byte (Some number)) bytes) text w.1) [
    | inl v ↦ (let u = if_some (is_utf8 bytes) (chars bytes) text v.1 in
        let e = same_Some (chars bytes) text u.1 in
        let k = utf8_valid bytes u.0 in
        (k.0, subst (λ (z : List ℕ). length z ≤ length bytes) e k.1))
    | inr v ↦ each_valid IsByte (character_of_byte (Some number)) (single_byte number) bytes text v.1
  ]
]

digit_is : (byte c : ℕ) → digit_character byte ≡ Some c → IsDigit byte
digit_is byte c h = let w = within 48 57 byte (if_some (is_between 48 57 byte) byte c h).0 in (w.0, omega (arith, w.1))

letter_is : (byte c : ℕ) → alphanumeric_character byte ≡ Some c → Contains alphabet byte
letter_is byte c h = is_alphanumeric-inside byte (if_some (is_alphanumeric byte) byte c h).0

-- A segment that is read is valid in its mode, and has at least as many characters as its text.
pub segment_valid : (plain mixed : Bool) (force : Option ℕ) (mode : Mode) (bytes text : List ℕ) → read_segment plain mixed force mode bytes ≡ Some text →
    IsValid mode bytes × (length text ≤ characters mode (length bytes))
unfolding read_segment
segment_valid plain mixed force Numeric bytes text h = each_valid IsDigit digit_character digit_is bytes text h
segment_valid plain mixed force Alphanumeric bytes text h = each_valid (Contains alphabet) alphanumeric_character letter_is bytes text h
segment_valid plain mixed force Byte bytes text h = bytes_valid mixed force bytes text h
segment_valid plain mixed force Kanji bytes text h = kanji_valid bytes text (test_some (plain || is_shift_jis force) (read_kanji bytes) text h).1

-- ---- Parts

-- A part that is read: a designator below 128, or a segment that is valid in its mode.
abbrev pub IsSound : Part → Type 0
IsSound (designator number) = number < 128
IsSound (segment mode bytes) = IsValid mode bytes

-- The characters of a part.
abbrev pub part_characters : Part → ℕ
part_characters (designator number) = 0
part_characters (segment mode bytes) = characters mode (length bytes)

abbrev pub parts_characters : List Part → ℕ
parts_characters [] = 0
parts_characters (part ∷ parts) = part_characters part + parts_characters parts

small_known : (number : ℕ) → is_known number ≡ true → number < 128
small_known number h = grind (arith, common_steps)

pub parts_sound : (plain mixed : Bool) (force : Option ℕ) (parts : List Part) (text : List ℕ) → read_parts plain mixed force parts ≡ Some text →
    All IsSound parts × (length text ≤ parts_characters parts)
unfolding read_parts
parts_sound plain mixed force [] text h = let e = same_Some [] text h in (All-nil IsSound, rw (← e) (omega arith))
parts_sound plain mixed force (designator number ∷ parts) text h =
    let w : (is_known number ≡ true) × (read_parts plain mixed (Some number) parts ≡ Some text) = test_some (is_known number) _ text h in
    let rest = parts_sound plain mixed (Some number) parts text w.1 in
    (All-cons IsSound (designator number) parts (small_known number w.0) rest.0, omega (arith, rest.1))
parts_sound plain mixed force (segment mode bytes ∷ parts) text h =
    let w = joined_says (read_segment plain mixed force mode bytes) (read_parts plain mixed force parts) text h in
    let here = segment_valid plain mixed force mode bytes w.0 w.2 in
    let rest = parts_sound plain mixed force parts w.1 w.3 in
    (All-cons IsSound (segment mode bytes) parts here.0 rest.0, rw w.4 (omega (arith, here.1, rest.1, length-append w.0 w.1)))
