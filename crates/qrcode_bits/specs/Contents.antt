-- What the data of a symbol are: bytes, a text in UTF-8, or GS1 elements (ISO/IEC 18004:2006,
-- "Extended Channel Interpretation (ECI) mode" and "FNC1 mode"). A reader tells them apart by the
-- bits before the data.
use Rattle.std.specs.Prelude.{◌≡◌, ◌≢◌, ◌⊎◌, ℕ, ◌+◌, ◌-◌, ◌<◌, Bool, true, ◌==◌, ◌||◌, nat_lt, if◌then◌else◌}
use Rattle.std.specs.Prelude.{List, [], ◌∷◌, ◌++◌, length, map, All, Some, slice_get, slice_index_or}
use Rattle.std.specs.Prelude.{slice_range}
use Rattle.qrcode_base.specs.Characters.{is_between}
use Rattle.qrcode_base.specs.Numbers.{number_bits}
use Rattle.qrcode_base.specs.declared.types.Mode.{Mode}
use Rattle.qrcode_base.specs.declared.types.Mode.TheVariants.{Alphanumeric, Kanji}
use Rattle.qrcode_base.specs.declared.types.Version.{Version}
use Rattle.qrcode_base.specs.declared.types.Version.TheVariants.{Normal, Micro}
use Rattle.qrcode_bits.specs.declared.bits.front.Content.{Content}
use Rattle.qrcode_bits.specs.declared.bits.front.Content.TheVariants.{Bytes, Text, Elements}
use Rattle.qrcode_bits.specs.declared.optimize.Segment.{Segment}
use Rattle.qrcode_bits.specs.Spelling.{Piece, piece_of}

-- ---- What a reader finds

-- A version may have the content. Micro symbols have bytes alone.
abbrev pub HasContent : Version → Content → Type 0
HasContent version Bytes = Unit {0}
HasContent (Normal n) content = Unit {0}
HasContent (Micro n) content = ⊥

-- The bits that name the content: before a text the ECI indicator 7 in four bits, and the
-- designator 26, which is UTF-8, in eight; before elements the indicator of FNC1 in the first
-- position, which is 5; none before bytes. Example: a text begins with 0111 00011010.
abbrev pub content_bits : Content → List Bool
content_bits Bytes = []
content_bits Text = number_bits 4 7 ++ number_bits 8 26
content_bits Elements = number_bits 4 5

-- Where the data are a text or elements, no piece is in the Kanji mode, whose pairs are Shift JIS.
abbrev pub AreAllowed : Content → List Piece → Type 0
AreAllowed Bytes pieces = Unit {0}
AreAllowed content pieces = All (λ piece. piece.mode ≢ Kanji) pieces

-- The separator of elements, 1D (hex).
abbrev pub separator : ℕ
separator = 0x1d

-- The character `%`, as which the Alphanumeric mode writes the separator.
abbrev pub percent : ℕ
percent = 0x25

-- The data of an Alphanumeric piece of elements: `%%` is the character `%`, and a single `%` is
-- FNC1, which separates elements (ISO/IEC 18004:2006, "FNC1 mode").
abbrev pub unescaped : List ℕ → List ℕ
unescaped [] = []
unescaped (a ∷ []) = (if a == percent then separator else a) ∷ []
unescaped (a ∷ b ∷ rest) =
    if a == percent then (if b == percent then percent ∷ unescaped rest else separator ∷ unescaped (b ∷ rest))
    else a ∷ unescaped (b ∷ rest)

-- The data of a piece: its text, unescaped in an Alphanumeric piece of elements. Example:
-- `10AB%21%%` in elements is `10AB`, 1D (hex), `21%`.
abbrev pub piece_data : Content → Piece → List ℕ
piece_data Elements piece = elim piece.mode [ Alphanumeric ↦ unescaped piece.text | _ ↦ piece.text ]
piece_data content piece = piece.text

-- ---- How data are parsed into segments

-- The byte as which a byte is parsed. In a text no pairs of Shift JIS are looked for: bytes from 80
-- (hex) on are parsed as 0, which only the Byte mode has. In elements a separator is parsed as `%`,
-- as which the Alphanumeric mode writes it, and the character `%` as 0. Example: of `10AB`, 1D
-- (hex), `21` all is Alphanumeric.
abbrev pub parsed_byte : Content → ℕ → ℕ
parsed_byte Bytes byte = byte
parsed_byte Text byte = if nat_lt byte 0x80 then byte else 0
parsed_byte Elements byte =
    if byte == separator then percent
    else (if byte == percent then 0 else (if nat_lt byte 0x80 then byte else 0))

-- The bytes as which data are parsed.
abbrev pub parsed_bytes : Content → List ℕ → List ℕ
parsed_bytes Bytes bytes = bytes
parsed_bytes content bytes = map (parsed_byte content) bytes

-- The text of a piece in a mode that has these data: in Alphanumeric pieces of elements a separator
-- is written `%`.
abbrev pub piece_text : Content → Mode → List ℕ → List ℕ
piece_text Elements Alphanumeric bytes = map (parsed_byte Elements) bytes
piece_text content mode bytes = bytes

-- The pieces of segments of some data.
abbrev pub pieces_of : Content → List ℕ → List Segment → List Piece
pieces_of content bytes segments =
    map (λ s. piece_of s.mode (piece_text content s.mode (slice_range bytes s.begin s.end))) segments

-- ---- Elements

-- Whether a byte is a character of element strings: one of the 82 of most values, or the number
-- sign (GS1 General Specifications, "GS1 AI encodable character set 82" and "set 39").
unfoldable pub is_element_character : ℕ → Bool
is_element_character c =
    is_between 0x21 0x23 c || is_between 0x25 0x3f c || is_between 0x41 0x5a c || (c == 0x5f)
    || is_between 0x61 0x7a c

-- The byte at a place is one of these characters, or a separator between two elements: neither
-- first nor last, and not after another.
abbrev pub IsElementByte : List ℕ → ℕ → Type 0
IsElementByte bytes place =
    let byte = slice_index_or bytes place 0 in
    (is_element_character byte ≡ true)
    ⊎ ((byte ≡ separator) × (0 < place) × (place + 1 < length bytes)
    × (slice_index_or bytes (place - 1) 0 ≢ separator))

-- The bytes are elements: each is one of the 82 characters of GS1, a number sign, or a separator
-- between two elements, which is neither first nor last, and not after another.
abbrev pub AreElements : List ℕ → Type 0
AreElements bytes = (place : ℕ) → place < length bytes → IsElementByte bytes place

-- The first byte because of which bytes are no elements, and its place.
pub record IsFirstNoElement (bytes : List ℕ) (place byte : ℕ) : Type 0 where
  pub byte_is : slice_get bytes place ≡ Some byte
  pub before : (earlier : ℕ) → earlier < place → IsElementByte bytes earlier
  pub here : IsElementByte bytes place → ⊥

-- The bytes may be data of the content: any bytes, any text, but only elements as `AreElements`
-- has them.
abbrev pub AreDataOf : Content → List ℕ → Type 0
AreDataOf Bytes bytes = Unit {0}
AreDataOf Text bytes = Unit {0}
AreDataOf Elements bytes = AreElements bytes
