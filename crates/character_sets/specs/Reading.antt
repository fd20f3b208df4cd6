-- The text that the data of a symbol are read as: its characters in Unicode (ISO/IEC 18004:2006,
-- "Extended Channel Interpretation (ECI) mode" and the modes of characters).
--
-- A reader takes a Kanji segment in the encoding that is in force. So it is read as Kanji only
-- where the symbol has no designator at all, or where that of Shift JIS is in force. Where no
-- designator is in force a reader takes bytes for ASCII; but if the symbol has a Kanji segment,
-- some take them for JIS X 0201.
use Rattle.std.specs.Prelude.{◌≡◌, ℕ, codes, Bool, true, false, ◌==◌, ◌||◌, Option, None, Some}
use Rattle.std.specs.Prelude.{List, [], ◌∷◌, ◌++◌, chars, encode_utf8_all, if◌then◌else◌}
use Rattle.std.specs.Str.{is_utf8, all_scalars}
use Rattle.qrcode_base.specs.Characters.{is_alphanumeric, is_between, is_kanji_pair, is_lead}
use Rattle.qrcode_base.specs.Characters.{kanji_number}
use Rattle.qrcode_base.specs.declared.types.Mode.{Mode}
use Rattle.qrcode_base.specs.declared.types.Mode.TheVariants.{Numeric, Alphanumeric, Byte, Kanji}
use Rattle.character_sets.specs.Kanji.{character_of}
use Rattle.character_sets.specs.Bytes.{ascii_character, character_of_byte}
use Rattle.character_sets.specs.Bytes.{common_character, is_part, shift_jis_character}

-- A part of the data of a symbol: an ECI designator, or a segment of bytes in a mode, in which two
-- bytes of Shift JIS stand for each character of the Kanji mode.
pub data Part : Type 0 where
  designator : ℕ → Part
  segment : Mode → List ℕ → Part

-- ---- Bytes

-- A character in front of others, if all of them are readable.
abbrev pub put : Option ℕ → Option (List ℕ) → Option (List ℕ)
put (Some c) (Some text) = Some (c ∷ text)
put c text = None

-- Bytes of which each is a character by itself.
unfoldable pub each_of : (ℕ → Option ℕ) → List ℕ → Option (List ℕ)
each_of character [] = Some []
each_of character (byte ∷ bytes) = put (character byte) (each_of character bytes)

-- The character of two bytes of Shift JIS.
abbrev pub pair_character : ℕ → ℕ → Option ℕ
pair_character lead trail =
    if is_kanji_pair lead trail then character_of (kanji_number lead trail) else None

-- Pairs of bytes.
unfoldable pub read_kanji : List ℕ → Option (List ℕ)
read_kanji [] = Some []
read_kanji (lead ∷ []) = None
read_kanji (lead ∷ trail ∷ bytes) = put (pair_character lead trail) (read_kanji bytes)

-- Bytes of Shift JIS: pairs and single bytes.
unfoldable pub read_shift_jis : List ℕ → Option (List ℕ)
read_shift_jis [] = Some []
read_shift_jis (byte ∷ []) = put (shift_jis_character byte) (Some [])
read_shift_jis (byte ∷ next ∷ bytes) =
    if is_lead byte then put (pair_character byte next) (read_shift_jis bytes)
    else put (shift_jis_character byte) (read_shift_jis (next ∷ bytes))

-- Bytes by the designator in force, where `mixed` says that the symbol has a Kanji segment: 20 is
-- Shift JIS, and 26 is UTF-8.
unfoldable pub read_bytes : Bool → Option ℕ → List ℕ → Option (List ℕ)
read_bytes mixed None bytes = each_of (if mixed then common_character else ascii_character) bytes
read_bytes mixed (Some number) bytes =
    if number == 20 then read_shift_jis bytes
    else (if number == 26 then (if is_utf8 bytes then Some (chars bytes) else None)
    else each_of (character_of_byte (Some number)) bytes)

-- ---- Segments

-- The designator is that of Shift JIS.
abbrev pub is_shift_jis : Option ℕ → Bool
is_shift_jis None = false
is_shift_jis (Some number) = number == 20

abbrev pub digit_character : ℕ → Option ℕ
digit_character byte = if is_between 48 57 byte then Some byte else None

abbrev pub alphanumeric_character : ℕ → Option ℕ
alphanumeric_character byte = if is_alphanumeric byte then Some byte else None

-- A segment, where `plain` says that the symbol has no designator, and `mixed` that it has a
-- Kanji segment.
unfoldable pub read_segment : Bool → Bool → Option ℕ → Mode → List ℕ → Option (List ℕ)
read_segment plain mixed force Numeric bytes = each_of digit_character bytes
read_segment plain mixed force Alphanumeric bytes = each_of alphanumeric_character bytes
read_segment plain mixed force Byte bytes = read_bytes mixed force bytes
read_segment plain mixed force Kanji bytes =
    if plain || is_shift_jis force then read_kanji bytes else None

-- ---- Symbols

-- A text in front of another, if both are readable.
abbrev pub joined : Option (List ℕ) → Option (List ℕ) → Option (List ℕ)
joined (Some front) (Some text) = Some (front ++ text)
joined front text = None

-- A designator that every reader knows: of a part of ISO/IEC 8859 other than 10 and 14, of Shift
-- JIS, or of UTF-8.
abbrev pub is_known : ℕ → Bool
is_known number = is_part number || (number == 20) || (number == 26)

-- Parts of the data, by the designator in force before them.
unfoldable pub read_parts : Bool → Bool → Option ℕ → List Part → Option (List ℕ)
read_parts plain mixed force [] = Some []
read_parts plain mixed force (designator number ∷ parts) =
    if is_known number then read_parts plain mixed (Some number) parts else None
read_parts plain mixed force (segment mode bytes ∷ parts) =
    joined (read_segment plain mixed force mode bytes) (read_parts plain mixed force parts)

-- No part is a designator.
unfoldable pub has_no_designator : List Part → Bool
has_no_designator [] = true
has_no_designator (designator number ∷ parts) = false
has_no_designator (segment mode bytes ∷ parts) = has_no_designator parts

-- A part is a Kanji segment.
unfoldable pub has_kanji : List Part → Bool
has_kanji [] = false
has_kanji (segment Kanji bytes ∷ parts) = true
has_kanji (part ∷ parts) = has_kanji parts

-- The data of a symbol are read as this text.
abbrev pub IsReadAs : List Part → List ℕ → Type 0
IsReadAs parts text = read_parts (has_no_designator parts) (has_kanji parts) None parts ≡ Some text

-- Examples: each mode without a designator; the two of the standard in the Kanji mode; bytes by
-- the designators of parts 7 and 5 of ISO/IEC 8859 and of Shift JIS; and what is not read: a
-- Kanji segment after another designator than that of Shift JIS, and a byte that is not ASCII
-- without one.
pub record ReadsExamples : Type 0 where
  pub plain : IsReadAs
      (segment Numeric (codes "12") ∷ segment Alphanumeric (codes "A:") ∷ segment Byte (codes "a~")
      ∷ [])
      (codes "12A:a~")
  pub kanji : IsReadAs (segment Kanji (0x93 ∷ 0x5f ∷ 0xe4 ∷ 0xaa ∷ []) ∷ []) (0x70b9 ∷ 0x8317 ∷ [])
  pub parts : IsReadAs
      (designator 9 ∷ segment Byte (0x41 ∷ 0xe1 ∷ []) ∷ designator 7 ∷ segment Byte (0xb6 ∷ []) ∷ [])
      (0x41 ∷ 0x3b1 ∷ 0x416 ∷ [])
  pub shift_jis : IsReadAs
      (designator 20 ∷ segment Byte (0x41 ∷ 0x93 ∷ 0x5f ∷ 0xb1 ∷ []) ∷ segment Kanji (0x93 ∷ 0x5f ∷ [])
      ∷ [])
      (0x41 ∷ 0x70b9 ∷ 0xff71 ∷ 0x70b9 ∷ [])
  pub no_kanji : (text : List ℕ) → IsReadAs
      (designator 26 ∷ segment Kanji (0x93 ∷ 0x5f ∷ []) ∷ []) text → ⊥
  pub no_latin : (text : List ℕ) → IsReadAs (segment Byte (0xe9 ∷ []) ∷ []) text → ⊥

-- No data are read as two texts.
abbrev pub DataHaveOneText : Type 0
DataHaveOneText =
    (parts : List Part) (first second : List ℕ) → IsReadAs parts first → IsReadAs parts second →
    first ≡ second

-- Each text can be written: in UTF-8 behind its designator.
abbrev pub EachTextIsRead : Type 0
EachTextIsRead =
    (text : List ℕ) → all_scalars text ≡ true →
    IsReadAs (designator 26 ∷ segment Byte (encode_utf8_all text) ∷ []) text
