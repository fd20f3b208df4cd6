-- How data of each content are parsed, and how their pieces are written and read.
use Rattle.qrcode_bits.proofs.Prelude.{◌≡◌, ◌≢◌, ℕ, suc, ◌+◌, ◌-◌, ◌<◌, ◌⊎◌, inl, inr, true, false, List, [], ◌∷◌, length, get_or, refl, sym, ap, ◌∙◌, subst}
use Rattle.qrcode_bits.proofs.Prelude.{arith, map, slice_range, cases_eq, All, All-head, All-tail, Contains, alphabet, is_alphanumeric, IsDigit, IsKanjiText}
use Rattle.qrcode_bits.proofs.Prelude.{IsValid, is_kanji_pair, Mode, Numeric, Alphanumeric, Byte, Kanji, Content, Bytes, Text, Elements, parsed_byte}
use Rattle.qrcode_bits.proofs.Prelude.{parsed_bytes, piece_text, AreDataOf, piece_data, common_steps, Piece, map-id, piece_of, length-map, get_or-map}
use Rattle.qrcode_bits.proofs.Prelude.{HasSingleUnits, All-map, All-weaker, percent}
use Rattle.std.proofs.lemmas.List.{take-map, drop-map}
use Rattle.qrcode_base.proofs.Alphabet.{is_alphanumeric-from_inside}
use Rattle.qrcode_bits.specs.Contents.{separator, unescaped, is_element_character, AreElements}
use Rattle.qrcode_bits.proofs.Shortest.{sign-low}

-- ---- Parsed bytes

pub map-parsed : (c : Content) (s : List ℕ) → map (parsed_byte c) s ≡ parsed_bytes c s
map-parsed Bytes s = map-id s
map-parsed Text s = refl
map-parsed Elements s = refl

pub length-parsed : (c : Content) (s : List ℕ) → length (parsed_bytes c s) ≡ length s
length-parsed c s = grind (arith, length-map)

-- parsed bytes of a slice
pub slice-parsed : (c : Content) (s : List ℕ) (a b : ℕ) → slice_range (parsed_bytes c s) a b ≡ parsed_bytes c (slice_range s a b)
slice-parsed c s a b = grind (arith, take-map, drop-map)

abbrev pub IsPlain : Content → Type 0
IsPlain Bytes = ⊥
IsPlain content = Unit {0}

-- but for bytes as they are, each parsed byte is below 80 (hex)
byte-low : (c : Content) → IsPlain c → (b : ℕ) → parsed_byte c b < 128
byte-low Bytes plain b = absurd plain
byte-low Text plain b = grind arith
byte-low Elements plain b = grind arith

pub parsed-low : (c : Content) → IsPlain c → (s : List ℕ) → All (λ b. b < 128) (parsed_bytes c s)
parsed-low c plain s =
    subst (All (λ b. b < 128)) (map-parsed c s) (All-map (λ b. b < 128) (parsed_byte c) s (λ k d within. byte-low c plain (get_or s k d)))

pub parsed-bytes : (c : Content) (s : List ℕ) → All (λ b. b < 256) s → All (λ b. b < 256) (parsed_bytes c s)
parsed-bytes Bytes s h = h
parsed-bytes Text s h = λ k d within. omega (arith, parsed-low Text tt s k d within)
parsed-bytes Elements s h = λ k d within. omega (arith, parsed-low Elements tt s k d within)

-- ---- What is written is valid

digit-back : (c : Content) (b : ℕ) → IsDigit (parsed_byte c b) → parsed_byte c b ≡ b
digit-back Bytes b h = refl
digit-back Text b h = grind arith
digit-back Elements b h = grind arith

zero_no_sign : Contains alphabet 0 → ⊥
unfolding is_alphanumeric
zero_no_sign h = let e : false ≡ true = is_alphanumeric-from_inside 0 h in cc

pub separator_no_sign : Contains alphabet separator → ⊥
unfolding is_alphanumeric
separator_no_sign h = let e : false ≡ true = is_alphanumeric-from_inside separator h in cc

text-sign : (b : ℕ) → Contains alphabet (parsed_byte Text b) → parsed_byte Text b ≡ b
text-sign b h = grind (arith, zero_no_sign)

elements-sign : (b : ℕ) → Contains alphabet (parsed_byte Elements b) →
    ((b ≡ separator) × (parsed_byte Elements b ≡ percent)) ⊎ ((b ≢ percent) × (parsed_byte Elements b ≡ b))
elements-sign b h = grind (arith, zero_no_sign, cases_eq b separator, cases_eq b percent)

-- bytes of which each is parsed as itself
same-each : (f : ℕ → ℕ) (s : List ℕ) → All (λ b. f b ≡ b) s → map f s ≡ s
same-each f [] h = refl
same-each f (a ∷ s) h = ap (λ (z : ℕ). z ∷ map f s) (h 0 a (omega arith)) ∙ ap (λ (zs : List ℕ). a ∷ zs) (same-each f s (All-tail (λ b. f b ≡ b) a s h))

same-map : (f : ℕ → ℕ) (P : ℕ → Type 0) → ((b : ℕ) → P (f b) → f b ≡ b) → (s : List ℕ) → All P (map f s) → map f s ≡ s
same-map f P each s h = same-each f s (λ k d within. each (get_or s k d)
    (subst P (get_or-map f s k d (f d) within) (h k (f d) (rw length-map within))))

low-pair : (a b : ℕ) → a < 128 → is_kanji_pair a b ≡ true → ⊥
low-pair a b low h = grind arith

-- no low bytes are pairs
no_pairs : (f : ℕ → ℕ) → ((b : ℕ) → f b < 128) → (s : List ℕ) → IsKanjiText (map f s) → s ≡ []
no_pairs f low [] h = refl
no_pairs f low (a ∷ []) h = absurd h
no_pairs f low (a ∷ b ∷ s) h = absurd (low-pair (f a) (f b) (low a) h.0)

pub plain-no_pairs : (c : Content) → IsPlain c → (s : List ℕ) → IsKanjiText (parsed_bytes c s) → s ≡ []
plain-no_pairs c plain s h = no_pairs (parsed_byte c) (byte-low c plain) s (subst IsKanjiText (sym (map-parsed c s)) h)

-- The text of a piece is valid in its mode if the parsed bytes are.
pub written-valid : (c : Content) (m : Mode) (s : List ℕ) → All (λ b. b < 256) s → IsValid m (parsed_bytes c s) → IsValid m (piece_text c m s)
written-valid Bytes m s are h = h
written-valid Text Numeric s are h = subst (All IsDigit) (same-map (parsed_byte Text) IsDigit (digit-back Text) s h) h
written-valid Text Alphanumeric s are h =
    subst (All (λ c. Contains alphabet c)) (same-map (parsed_byte Text) (λ c. Contains alphabet c) text-sign s h) h
written-valid Text Kanji s are h = subst IsKanjiText (sym (plain-no_pairs Text tt s h)) tt
written-valid Elements Numeric s are h = subst (All IsDigit) (same-map (parsed_byte Elements) IsDigit (digit-back Elements) s h) h
written-valid Elements Alphanumeric s are h = h
written-valid Elements Kanji s are h = subst IsKanjiText (sym (plain-no_pairs Elements tt s h)) tt
written-valid c Byte s are h = grind arith

pub length-written : (c : Content) (m : Mode) (s : List ℕ) → length (piece_text c m s) ≡ length s
length-written c m s = grind (arith, length-map)

-- ---- What is written is read back

-- no separator follows another
abbrev AreSingle : List ℕ → Type 0
AreSingle [] = Unit {0}
AreSingle (a ∷ []) = Unit {0}
AreSingle (a ∷ b ∷ rest) = (a ≡ separator → b ≢ separator) × AreSingle (b ∷ rest)

abbrev AreSingleAt : List ℕ → Type 0
AreSingleAt s = (i : ℕ) → suc i < length s → get_or s i 0 ≡ separator → get_or s (suc i) 0 ≢ separator

single-each : (s : List ℕ) → AreSingleAt s → AreSingle s
single-each [] h = tt
single-each (a ∷ []) h = tt
single-each (a ∷ b ∷ rest) h = (h 0 (omega arith), single-each (b ∷ rest) (λ i within. h (suc i) (omega (arith, within))))

separator-no_character : is_element_character separator ≡ false
unfolding is_element_character
separator-no_character = refl

pub not_character : (b : ℕ) → b ≡ separator → is_element_character b ≡ true → ⊥
not_character b is h = let e : false ≡ true = sym separator-no_character ∙ (ap is_element_character (sym is) ∙ h) in cc

elements-single : (s : List ℕ) → AreElements s → AreSingleAt s
elements-single s h i within first second = elim (h (suc i) within) [
  | inl character ↦ not_character (get_or s (suc i) 0) second character
  | inr between ↦ between.3 (let e : suc i - 1 ≡ i = omega arith in rw e first)
]

slice-single : (s : List ℕ) (a b : ℕ) → AreSingleAt s → AreSingleAt (slice_range s a b)
slice-single s a b h i within first second = grind (arith, common_steps, h (a + i))

single-escaped : (s : List ℕ) → All (λ c. Contains alphabet c) (map (parsed_byte Elements) s) → AreSingle s →
    unescaped (map (parsed_byte Elements) s) ≡ s
single-escaped [] valid single = refl
single-escaped (a ∷ []) valid single = grind (arith, elements-sign, All-head)
single-escaped (a ∷ b ∷ rest) valid single =
    let first = elements-sign a (All-head (λ c. Contains alphabet c) (parsed_byte Elements a) (map (parsed_byte Elements) (b ∷ rest)) valid) in
    let later = All-tail (λ c. Contains alphabet c) (parsed_byte Elements a) (map (parsed_byte Elements) (b ∷ rest)) valid in
    let second = elements-sign b (All-head (λ c. Contains alphabet c) (parsed_byte Elements b) (map (parsed_byte Elements) rest) later) in
    let more = single-escaped (b ∷ rest) later single.1 in
    grind arith

-- The data of a piece are the bytes of which it was written.
pub written-read : (c : Content) (m : Mode) (s : List ℕ) (a b : ℕ) → AreDataOf c s → IsValid m (parsed_bytes c (slice_range s a b)) →
    piece_data c (piece_of m (piece_text c m (slice_range s a b))) ≡ slice_range s a b
written-read Elements Alphanumeric s a b suited valid =
    single-escaped (slice_range s a b) valid (single-each (slice_range s a b) (slice-single s a b (elements-single s suited)))
written-read c m s a b suited valid = grind arith

-- ---- What is read is parsed as it was written

digit-parsed : (c : Content) (b : ℕ) → IsDigit b → parsed_byte c b ≡ b
digit-parsed Bytes b h = refl
digit-parsed Text b h = grind arith
digit-parsed Elements b h = grind arith

sign-parsed : (b : ℕ) → b < 128 → b ≢ percent → b ≢ separator → parsed_byte Elements b ≡ b
sign-parsed b low plain other = grind arith

low-parsed : (b : ℕ) → b < 128 → parsed_byte Text b ≡ b
low-parsed b low = grind arith

other-parsed : (a : ℕ) → Contains alphabet a → a ≢ percent → parsed_byte Elements a ≡ a
other-parsed a h plain = sign-parsed a (sign-low a h) plain (λ e. separator_no_sign (subst (Contains alphabet) e h))

abbrev IsSign : ℕ → Type 0
IsSign c = Contains alphabet c

abbrev IsPlainByte : ℕ → Type 0
IsPlainByte b = b ≢ percent

unescaped-parsed : (t : List ℕ) → All IsSign t → All IsPlainByte (unescaped t) → map (parsed_byte Elements) (unescaped t) ≡ t
unescaped-parsed [] valid apart = refl
unescaped-parsed (a ∷ []) valid apart = grind (arith, cases_eq a percent, other-parsed a (All-head IsSign a [] valid))
unescaped-parsed (a ∷ b ∷ rest) valid apart =
    let sign = All-head IsSign a (b ∷ rest) valid in
    let later = unescaped-parsed (b ∷ rest) (All-tail IsSign a (b ∷ rest) valid) in elim (cases_eq a percent) [
      | inl is ↦ elim (cases_eq b percent) [
        | inl also ↦ (let e : unescaped (a ∷ b ∷ rest) ≡ percent ∷ unescaped rest = grind arith in
            absurd (All-head IsPlainByte percent (unescaped rest) (subst (All IsPlainByte) e apart) refl))
        | inr single ↦ (let e : unescaped (a ∷ b ∷ rest) ≡ separator ∷ unescaped (b ∷ rest) = grind arith in
            let more = later (All-tail IsPlainByte separator (unescaped (b ∷ rest)) (subst (All IsPlainByte) e apart)) in
            rw (e, more) (ap (λ z. z ∷ b ∷ rest) (sym is)))
      ]
      | inr plain ↦ (let e : unescaped (a ∷ b ∷ rest) ≡ a ∷ unescaped (b ∷ rest) = grind arith in
          let more = later (All-tail IsPlainByte a (unescaped (b ∷ rest)) (subst (All IsPlainByte) e apart)) in
          rw (e, more, other-parsed a sign plain) refl)
    ]

-- The piece of the parsed bytes of the data of a piece.
abbrev pub parsed_piece : Content → Piece → Piece
parsed_piece c p = piece_of p.mode (parsed_bytes c (piece_data c p))

-- It is valid in its mode, and has as many bytes.
abbrev pub SameSize : Mode → List ℕ → List ℕ → Type 0
SameSize m s t = IsValid m t × (length t ≡ length s)

same-size : (m : Mode) (s t : List ℕ) → IsValid m s → t ≡ s → SameSize m s t
same-size m s t valid e = (subst (IsValid m) (sym e) valid, ap (λ (z : List ℕ). length z) e)

digits-parsed : (c : Content) (t : List ℕ) → All IsDigit t → SameSize Numeric t (map (parsed_byte c) t)
digits-parsed c t valid = same-size Numeric t _ valid (same-each (parsed_byte c) t (All-weaker IsDigit (λ b. parsed_byte c b ≡ b) (digit-parsed c) t valid))

pub parsed-size : (c : Content) (m : Mode) (t : List ℕ) → IsPlain c → IsValid m t → m ≢ Kanji → HasSingleUnits c (piece_data c (piece_of m t)) →
    SameSize m t (parsed_bytes c (piece_data c (piece_of m t)))
parsed-size Bytes m t plain valid other apart = absurd plain
parsed-size c Kanji t plain valid other apart = absurd (other refl)
parsed-size Text Numeric t plain valid other apart = digits-parsed Text t valid
parsed-size Text Alphanumeric t plain valid other apart = same-size Alphanumeric t _ valid
    (same-each (parsed_byte Text) t (All-weaker IsSign (λ b. parsed_byte Text b ≡ b) (λ b h. low-parsed b (sign-low b h)) t valid))
parsed-size Elements Numeric t plain valid other apart = digits-parsed Elements t valid
parsed-size Elements Alphanumeric t plain valid other apart = same-size Alphanumeric t _ valid (unescaped-parsed t valid apart)
parsed-size Text Byte t plain valid other apart = (parsed-bytes Text t valid, length-parsed Text t)
parsed-size Elements Byte t plain valid other apart = (parsed-bytes Elements t valid, length-parsed Elements t)

pub parsed-alone : (c : Content) (s : List ℕ) → c ≡ Bytes → s ≡ parsed_bytes c s
parsed-alone c s e = sym (ap (λ (z : Content). parsed_bytes z s) e)
