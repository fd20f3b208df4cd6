-- A frame of a text in UTF-8, after its designator, cut into segments anywhere, has parts that are
-- read as the text and take no more bits: its segments, with neighbours in the Byte mode joined.
use Rattle.std.proofs.Common.{◌≡◌, ◌≢◌, ℕ, ℤ, zero, suc, ◌+◌, ◌-◌, ◌<◌, ◌≤◌, Bool, false, List, []}
use Rattle.std.proofs.Common.{◌∷◌, ◌++◌, get_or, length}
use Rattle.std.proofs.Common.{refl, sym, ap, subst, ◌∙◌, arith, append-nil, append_assoc}
use Rattle.std.proofs.Common.{length-append}
use Rattle.std.specs.Prelude.{All, Contains, Option, None, Some, chars, flat_map}
use Rattle.std.specs.Str.{IsAscii, IsCharBoundary, IsUtf8, is_utf8}
use Rattle.std.proofs.Math.Seq.{drop-append_seam, take-append_seam}
use Rattle.std.proofs.lemmas.Grind.{common_steps}
use Rattle.std.proofs.lemmas.List.{get_or_append_left}
use Rattle.std.proofs.lemmas.List.Elements.{All-cons, All-head, All-nil, All-tail}
use Rattle.std.proofs.lemmas.Str.{IsCharBoundary-after_ascii, IsCharBoundary-before_ascii}
use Rattle.std.proofs.lemmas.Str.{IsCharBoundary-end, IsUtf8-drop, IsUtf8-from_ascii}
use Rattle.std.proofs.lemmas.Str.{IsUtf8-take, chars-append, chars-nil, chars_from_encodes}
use Rattle.std.proofs.lemmas.Str.{encodes-IsAscii, is_utf8-from_IsUtf8}
use Rattle.std.proofs.lemmas.Bool.{cond-true}
use Rattle.qrcode_base.proofs.Alphabet.{is_alphanumeric-from_inside}
use Rattle.qrcode_base.specs.Characters.{IsDigit, IsValid, alphabet, is_alphanumeric}
use Rattle.qrcode_base.specs.Modes.{HasMode}
use Rattle.qrcode_base.specs.declared.types.EcLevel.{EcLevel}
use Rattle.qrcode_base.specs.declared.types.Mode.{Mode}
use Rattle.qrcode_base.specs.declared.types.Mode.TheVariants.{Numeric, Alphanumeric, Byte, Kanji}
use Rattle.qrcode_base.specs.declared.types.Version.{Version}
use Rattle.qrcode_base.specs.declared.types.Version.TheVariants.{Normal, Micro}
use Rattle.qrcode_bits.specs.Frame.{IsFrame, front_bits, front_of, spellings}
use Rattle.qrcode_bits.specs.Spelling.{IsSpellable, Piece, spelling}
use Rattle.qrcode_bits.specs.declared.bits.front.Content.TheVariants.{Text}
use Rattle.qrcode_base.specs.Numbers.{number_bits}
use Rattle.qrcode_bits.proofs.Numbers.{length-number_bits}
use Rattle.qrcode_bits.proofs.Reading.{length-spelling}
use Rattle.qrcode_bits.proofs.Segments.{length-character_bits}
use Rattle.character_sets.specs.Reading.{Part, designator, segment, alphanumeric_character}
use Rattle.character_sets.specs.Reading.{digit_character, each_of, has_kanji, has_no_designator}
use Rattle.character_sets.specs.Reading.{joined, read_bytes}
use Rattle.character_sets.specs.Reading.{read_parts, read_segment}
use Rattle.text_plans.specs.Costs.{HasPart, bits_of_part, bits_of_parts}
use Rattle.smallest_symbols.specs.TextFrames.{PartsFit}
use Rattle.smallest_symbols.proofs.MicroTexts.{letter_low}

-- ---- Segments of a text in UTF-8

-- The bytes of parts.
abbrev bytes_of : List Part → List ℕ
bytes_of [] = []
bytes_of (designator number ∷ parts) = bytes_of parts
bytes_of (segment mode bytes ∷ parts) = bytes ++ bytes_of parts

-- They do not begin with a Byte segment.
abbrev NoByteFirst : List Part → Type 0
NoByteFirst [] = Unit {0}
NoByteFirst (designator number ∷ parts) = Unit {0}
NoByteFirst (segment Byte bytes ∷ parts) = ⊥
NoByteFirst (segment mode bytes ∷ parts) = Unit {0}

-- Segments, none of them empty or in the Kanji mode, of which no two neighbours are in the
-- Byte mode.
abbrev AreTextSegments : List Part → Type 0
AreTextSegments [] = Unit {0}
AreTextSegments (designator number ∷ parts) = ⊥
AreTextSegments (segment Numeric bytes ∷ parts) = (bytes ≢ []) × All IsDigit bytes × AreTextSegments parts
AreTextSegments (segment Alphanumeric bytes ∷ parts) = (bytes ≢ []) × All (Contains alphabet) bytes × AreTextSegments parts
AreTextSegments (segment Byte bytes ∷ parts) = (bytes ≢ []) × NoByteFirst parts × AreTextSegments parts
AreTextSegments (segment Kanji bytes ∷ parts) = ⊥

digit_read : (bytes : List ℕ) → All IsDigit bytes → each_of digit_character bytes ≡ Some bytes
unfolding each_of
digit_read [] h = refl
digit_read (c ∷ bytes) h =
    let here : digit_character c ≡ Some c = digit_is c (All-head IsDigit c bytes h) in
    rw here (rw (digit_read bytes (All-tail IsDigit c bytes h)) refl)
  where
    digit_is : (c : ℕ) → IsDigit c → digit_character c ≡ Some c
    digit_is c h = grind (arith, common_steps)

letter_read : (bytes : List ℕ) → All (Contains alphabet) bytes → each_of alphanumeric_character bytes ≡ Some bytes
unfolding each_of
letter_read [] h = refl
letter_read (c ∷ bytes) h =
    let here : alphanumeric_character c ≡ Some c = cond-true (is_alphanumeric c) (Some c) None (is_alphanumeric-from_inside c (All-head (Contains alphabet) c bytes h)) in
    rw here (rw (letter_read bytes (All-tail (Contains alphabet) c bytes h)) refl)

-- ASCII bytes are their own characters.
low_ascii : (bytes : List ℕ) → All (λ (c : ℕ). c < 128) bytes → IsAscii bytes
low_ascii [] h i = omega arith
low_ascii (c ∷ bytes) h zero = All-head (λ (c : ℕ). c < 128) c bytes h
low_ascii (c ∷ bytes) h (suc i) = low_ascii bytes (All-tail (λ (c : ℕ). c < 128) c bytes h) i

low_chars : (bytes : List ℕ) → All (λ (c : ℕ). c < 128) bytes → chars bytes ≡ bytes
low_chars bytes h =
    let ascii = low_ascii bytes h in
    sym (chars_from_encodes bytes bytes (IsUtf8-from_ascii bytes ascii) (encodes-IsAscii bytes ascii))

digits_low : (bytes : List ℕ) → All IsDigit bytes → All (λ (c : ℕ). c < 128) bytes
digits_low bytes h = λ k d within. let w = h k d within in omega (arith, w.1)

letters_low : (bytes : List ℕ) → All (Contains alphabet) bytes → All (λ (c : ℕ). c < 128) bytes
letters_low bytes h = λ k d within. let w = letter_low _ (is_alphanumeric-from_inside _ (h k d within)) in omega (arith, w)

-- ---- Where the segments are cut

some_length : (bytes : List ℕ) → bytes ≢ [] → 0 < length bytes
some_length [] some = absurd (some refl)
some_length (c ∷ bytes) some = omega arith

-- after ASCII bytes
cut_after : (xs ys : List ℕ) → xs ≢ [] → All (λ (c : ℕ). c < 128) xs → IsUtf8 (xs ++ ys) → IsCharBoundary (xs ++ ys) (length xs)
cut_after xs ys some low utf8 =
    let long = some_length xs some in
    let last = length xs - 1 in
    let at : get_or (xs ++ ys) last 0 ≡ get_or xs last 0 = get_or_append_left xs ys 0 last (omega arith) in
    let ascii : get_or (xs ++ ys) last 0 < 128 = (let k = low_ascii xs low last in rw at k) in
    let w = IsCharBoundary-after_ascii (xs ++ ys) last utf8 (omega (arith, length-append xs ys)) ascii in
    subst (λ (i : ℕ). IsCharBoundary (xs ++ ys) i) (omega arith) w

-- the first byte of what follows
second_at : (xs ys : List ℕ) → get_or (xs ++ ys) (length xs) 0 ≡ get_or ys 0 0
second_at [] ys = refl
second_at (x ∷ xs) ys = second_at xs ys

first_low : (bytes rest : List ℕ) → bytes ≢ [] → All (λ (c : ℕ). c < 128) bytes → get_or (bytes ++ rest) 0 0 < 128
first_low [] rest some low = absurd (some refl)
first_low (c ∷ bytes) rest some low = All-head (λ (c : ℕ). c < 128) c bytes low

-- before ASCII bytes, or at the end
cut_before : (xs : List ℕ) (parts : List Part) → NoByteFirst parts → AreTextSegments parts → IsCharBoundary (xs ++ bytes_of parts) (length xs)
cut_before xs [] first are = subst (λ (bs : List ℕ). IsCharBoundary bs (length xs)) (sym (append-nil xs)) (IsCharBoundary-end xs)
cut_before xs (designator number ∷ parts) first are = absurd are
cut_before xs (segment Numeric bytes ∷ parts) first are =
    let long = some_length bytes are.0 in
    IsCharBoundary-before_ascii (xs ++ (bytes ++ bytes_of parts)) (length xs)
    (omega (arith, long, length-append xs (bytes ++ bytes_of parts), length-append bytes (bytes_of parts)))
    (rw (second_at xs (bytes ++ bytes_of parts)) (first_low bytes (bytes_of parts) are.0 (digits_low bytes are.1)))
cut_before xs (segment Alphanumeric bytes ∷ parts) first are =
    let long = some_length bytes are.0 in
    IsCharBoundary-before_ascii (xs ++ (bytes ++ bytes_of parts)) (length xs)
    (omega (arith, long, length-append xs (bytes ++ bytes_of parts), length-append bytes (bytes_of parts)))
    (rw (second_at xs (bytes ++ bytes_of parts)) (first_low bytes (bytes_of parts) are.0 (letters_low bytes are.1)))
cut_before xs (segment Byte bytes ∷ parts) first are = absurd first
cut_before xs (segment Kanji bytes ∷ parts) first are = absurd are

-- both sides are texts
both_utf8 : (xs ys : List ℕ) → IsUtf8 (xs ++ ys) → IsCharBoundary (xs ++ ys) (length xs) → IsUtf8 xs × IsUtf8 ys
both_utf8 xs ys utf8 cut = (
  subst IsUtf8 (take-append_seam xs ys) (IsUtf8-take (xs ++ ys) (length xs) utf8 cut),
  subst IsUtf8 (drop-append_seam xs ys) (IsUtf8-drop (xs ++ ys) (length xs) utf8 cut),
)

-- ---- The segments are read as the text

joined_is : (front rest : Option (List ℕ)) (xs ys whole : List ℕ) → front ≡ Some xs → rest ≡ Some ys → xs ++ ys ≡ whole → joined front rest ≡ Some whole
joined_is front rest xs ys whole f r e = rw f (rw r (ap (λ (t : List ℕ). Some t) e))

utf8_bytes : (bytes : List ℕ) → IsUtf8 bytes → read_bytes false (Some 26) bytes ≡ Some (chars bytes)
unfolding read_bytes
utf8_bytes bytes utf8 = cond-true (is_utf8 bytes) (Some (chars bytes)) None (is_utf8-from_IsUtf8 bytes utf8)

-- ASCII bytes in front of a text
ascii_front : (xs ys : List ℕ) → IsUtf8 xs → All (λ (c : ℕ). c < 128) xs → xs ++ chars ys ≡ chars (xs ++ ys)
ascii_front xs ys utf8 low = ap (λ (t : List ℕ). t ++ chars ys) (sym (low_chars xs low)) ∙ sym (chars-append xs ys utf8)

segments_read : (parts : List Part) → AreTextSegments parts → IsUtf8 (bytes_of parts) → read_parts false false (Some 26) parts ≡ Some (chars (bytes_of parts))
unfolding read_parts read_segment
segments_read [] are utf8 = ap (λ (t : List ℕ). Some t) (sym chars-nil)
segments_read (designator number ∷ parts) are utf8 = absurd are
segments_read (segment Numeric bytes ∷ parts) are utf8 =
    let low = digits_low bytes are.1 in
    let w = both_utf8 bytes (bytes_of parts) utf8 (cut_after bytes (bytes_of parts) are.0 low utf8) in
    joined_is (each_of digit_character bytes) (read_parts false false (Some 26) parts) bytes (chars (bytes_of parts)) (chars (bytes ++ bytes_of parts))
    (digit_read bytes are.1) (segments_read parts are.2 w.1) (ascii_front bytes (bytes_of parts) w.0 low)
segments_read (segment Alphanumeric bytes ∷ parts) are utf8 =
    let low = letters_low bytes are.1 in
    let w = both_utf8 bytes (bytes_of parts) utf8 (cut_after bytes (bytes_of parts) are.0 low utf8) in
    joined_is (each_of alphanumeric_character bytes) (read_parts false false (Some 26) parts) bytes (chars (bytes_of parts)) (chars (bytes ++ bytes_of parts))
    (letter_read bytes are.1) (segments_read parts are.2 w.1) (ascii_front bytes (bytes_of parts) w.0 low)
segments_read (segment Byte bytes ∷ parts) are utf8 =
    let w = both_utf8 bytes (bytes_of parts) utf8 (cut_before bytes parts are.1 are.2) in
    joined_is (read_bytes false (Some 26) bytes) (read_parts false false (Some 26) parts) (chars bytes) (chars (bytes_of parts)) (chars (bytes ++ bytes_of parts))
    (utf8_bytes bytes w.0) (segments_read parts are.2 w.1) (sym (chars-append bytes (bytes_of parts) w.0))
segments_read (segment Kanji bytes ∷ parts) are utf8 = absurd are

no_kanji : (parts : List Part) → AreTextSegments parts → has_kanji parts ≡ false
unfolding has_kanji
no_kanji [] are = refl
no_kanji (designator number ∷ parts) are = absurd are
no_kanji (segment Numeric bytes ∷ parts) are = no_kanji parts are.2
no_kanji (segment Alphanumeric bytes ∷ parts) are = no_kanji parts are.2
no_kanji (segment Byte bytes ∷ parts) are = no_kanji parts are.2
no_kanji (segment Kanji bytes ∷ parts) are = absurd are

-- ---- Pieces, with neighbours in the Byte mode joined

abbrev glue_byte : List ℕ → List Part → List Part
glue_byte text (segment Byte more ∷ parts) = segment Byte (text ++ more) ∷ parts
glue_byte text parts = segment Byte text ∷ parts

abbrev glue : Mode → List ℕ → List Part → List Part
glue Byte text parts = glue_byte text parts
glue mode text parts = segment mode text ∷ parts

abbrev glued : List Piece → List Part
glued [] = []
glued (piece ∷ pieces) = glue piece.mode piece.text (glued pieces)

not_empty : (xs ys : List ℕ) → xs ≢ [] → xs ++ ys ≢ []
not_empty [] ys some = λ e. some refl
not_empty (x ∷ xs) ys some = λ e. cc

-- what is known of glued parts, after parts that have these bytes and take these bits
record AreGlued (v : Version) (parts : List Part) (bytes : List ℕ) (bits : ℕ) : Type 0 where
  are : AreTextSegments parts
  has : All (HasPart v) parts
  bytes_are : bytes_of parts ≡ bytes
  few : bits_of_parts v parts ≤ bits

module _ (k : ℤ) where
  abbrev v : Version
  v = Normal k

  abbrev Here : Part → Type 0
  Here part = HasPart v part

  abbrev cost : Mode → List ℕ → ℕ
  cost mode text = bits_of_part v (segment mode text)

  glue_one : (mode : Mode) (text : List ℕ) (parts : List Part) (bytes : List ℕ) (bits : ℕ) → HasMode v mode → text ≢ [] → AreGlued v parts bytes bits →
      AreTextSegments (segment mode text ∷ parts) → AreGlued v (segment mode text ∷ parts) (text ++ bytes) (cost mode text + bits)
  glue_one mode text parts bytes bits has some g are = record {
    are = are;
    has = All-cons Here (segment mode text) parts (has, some) g.has;
    bytes_are = ap (λ (bs : List ℕ). text ++ bs) g.bytes_are;
    few = omega (arith, g.few);
  }

  glue_bytes : (text : List ℕ) (parts : List Part) (bytes : List ℕ) (bits : ℕ) → HasMode v Byte → text ≢ [] → AreGlued v parts bytes bits →
      AreGlued v (glue_byte text parts) (text ++ bytes) (cost Byte text + bits)
  glue_bytes text [] bytes bits has some g = glue_one Byte text [] bytes bits has some g (some, tt, tt)
  glue_bytes text (designator number ∷ parts) bytes bits has some g = absurd g.are
  glue_bytes text (segment Numeric more ∷ parts) bytes bits has some g =
      glue_one Byte text (segment Numeric more ∷ parts) bytes bits has some g (some, tt, g.are)
  glue_bytes text (segment Alphanumeric more ∷ parts) bytes bits has some g =
      glue_one Byte text (segment Alphanumeric more ∷ parts) bytes bits has some g (some, tt, g.are)
  glue_bytes text (segment Byte more ∷ parts) bytes bits has some g = record {
    are = (not_empty text more some, g.are.1, g.are.2);
    has = All-cons Here (segment Byte (text ++ more)) parts (has, not_empty text more some) (All-tail Here (segment Byte more) parts g.has);
    bytes_are = append_assoc text more (bytes_of parts) ∙ ap (λ (bs : List ℕ). text ++ bs) g.bytes_are;
    few = omega (arith, g.few, length-append text more);
  }
  glue_bytes text (segment Kanji more ∷ parts) bytes bits has some g = absurd g.are

  glue_any : (mode : Mode) (text : List ℕ) (parts : List Part) (bytes : List ℕ) (bits : ℕ) → HasMode v mode → text ≢ [] → IsValid mode text → mode ≢ Kanji →
      AreGlued v parts bytes bits → AreGlued v (glue mode text parts) (text ++ bytes) (cost mode text + bits)
  glue_any Numeric text parts bytes bits has some valid other g = glue_one Numeric text parts bytes bits has some g (some, valid, g.are)
  glue_any Alphanumeric text parts bytes bits has some valid other g = glue_one Alphanumeric text parts bytes bits has some g (some, valid, g.are)
  glue_any Byte text parts bytes bits has some valid other g = glue_bytes text parts bytes bits has some g
  glue_any Kanji text parts bytes bits has some valid other g = absurd (other refl)

  pieces_glued : (pieces : List Piece) → All (IsSpellable v) pieces → All (λ piece. piece.text ≢ []) pieces → All (λ piece. piece.mode ≢ Kanji) pieces →
      AreGlued v (glued pieces) (flat_map (λ piece. piece.text) pieces) (length (spellings v pieces))
  pieces_glued [] spellable some allowed = record { are = tt; has = All-nil Here; bytes_are = refl; few = omega arith }
  pieces_glued (piece ∷ pieces) spellable some allowed =
      let here = All-head (IsSpellable v) piece pieces spellable in
      let rest = pieces_glued pieces (All-tail (IsSpellable v) piece pieces spellable) (All-tail (λ (p : Piece). p.text ≢ []) piece pieces some)
      (All-tail (λ (p : Piece). p.mode ≢ Kanji) piece pieces allowed) in
      let g = glue_any piece.mode piece.text (glued pieces) _ _ here.mode (All-head (λ (p : Piece). p.text ≢ []) piece pieces some) here.valid
      (All-head (λ (p : Piece). p.mode ≢ Kanji) piece pieces allowed) rest in
      let long : cost piece.mode piece.text + length (spellings v pieces) ≡ length (spellings v (piece ∷ pieces)) =
      omega (arith, length-append (spelling v piece) (spellings v pieces), length-spelling v piece, length-character_bits piece.mode piece.text here.valid) in
      record { are = g.are; has = g.has; bytes_are = g.bytes_are; few = omega (arith, g.few, long) }

-- ---- Frames

designator_read : (parts : List Part) → AreTextSegments parts → (bytes : List ℕ) → bytes_of parts ≡ bytes → IsUtf8 bytes →
    read_parts (has_no_designator (designator 26 ∷ parts)) (has_kanji (designator 26 ∷ parts)) None (designator 26 ∷ parts) ≡ Some (chars bytes)
unfolding read_parts has_no_designator has_kanji
designator_read parts are bytes same utf8 =
    ap (λ (mixed : Bool). read_parts false mixed (Some 26) parts) (no_kanji parts are)
    ∙ (segments_read parts are (subst IsUtf8 (sym same) utf8) ∙ ap (λ (bs : List ℕ). Some (chars bs)) same)

front_long : length (front_bits (front_of None Text)) ≡ 12
front_long = omega (arith, length-append (number_bits 4 7) (number_bits 8 26), length-number_bits 4 7, length-number_bits 8 26)

-- A frame of a text in UTF-8 has parts that are read as the text, which fit and take no more bits.
-- They begin with a designator.
pub utf8_parts : (v : Version) (level : EcLevel) (bytes : List ℕ) (payload : ℕ) (bits : List Bool) → IsUtf8 bytes →
    IsFrame v level (front_of None Text) bytes payload bits →
    (parts : List Part) × PartsFit v level (chars bytes) parts × (bits_of_parts v parts ≤ payload)
    × ((rest : List Part) × (parts ≡ designator 26 ∷ rest))
utf8_parts (Micro k) level bytes payload bits utf8 f = absurd f.front_fits.1
utf8_parts (Normal k) level bytes payload bits utf8 f =
    let g = pieces_glued k f.pieces f.spellable f.nonempty f.allowed in
    let parts = designator 26 ∷ glued f.pieces in
    let same : bytes_of (glued f.pieces) ≡ bytes = g.bytes_are ∙ sym f.bytes_are in
    let few : bits_of_parts (Normal k) parts ≤ payload =
    omega (arith, g.few, f.payload_is, front_long, length-append (front_bits (front_of None Text)) (spellings (Normal k) f.pieces)) in (
      parts,
      record {
        written = record {
          read = designator_read (glued f.pieces) g.are bytes same utf8;
          had = All-cons (HasPart (Normal k)) (designator 26) (glued f.pieces) tt g.has;
        };
        limit = f.limit;
        has_level = f.limit_is;
        within = omega (arith, few, f.fits);
      },
      few,
      (glued f.pieces, refl),
    )
