-- A text that is spread over several symbols, each the smallest of its piece of the text (ISO/IEC
-- 18004:2006, "Structured Append"). The promise is `AreSmallestTextSymbols`.
use Rattle.std.specs.Prelude.{◌≡◌, ℕ, ℤ, nat_abs, ◌+◌, ◌<◌, List, [], ◌∷◌, ◌++◌, length, chars}
use Rattle.std.specs.Prelude.{encode_utf8_all, slice_index_or, IsPermutation, Some}
use Rattle.std.specs.List.{concat}
use Rattle.qrcode_base.specs.Symbols.{IsNormalNumber}
use Rattle.qrcode_base.specs.declared.types.Color.{Color}
use Rattle.qrcode_base.specs.declared.types.EcLevel.{EcLevel}
use Rattle.qrcode_base.specs.declared.types.errors.QrError.{QrError}
use Rattle.qrcode_base.specs.declared.types.errors.QrError.TheVariants.{DataTooLong, OutOfMemory}
use Rattle.qrcode_bits.specs.Frame.{Header, IsTotal}
use Rattle.qrcode_core.specs.Sequence.{IsTotalRefusal, header_at}
use Rattle.character_sets.specs.Reading.{IsReadAs, Part}
use Rattle.text_plans.specs.declared.rules.Manner.{Manner}
use Rattle.text_plans.specs.declared.rules.Manner.TheVariants.{Ascii, Paired, Designated}
use Rattle.smallest_symbols.specs.TextParts.{IsSomePartTooLongIn, IsSomeTextPartTooLong}
use Rattle.smallest_symbols.specs.TextParts.{text_of_part}
use Rattle.smallest_symbols.specs.TextHeadline.{ReadsText, TextReading}
use Rattle.smallest_symbols.specs.TextPieces.{IsSmallestPartUpTo}

-- ---- What a reader finds

-- A reader of texts finds a piece of a text in the grid, after a header, in some parts.
pub record FindsPiece (grid : List Color) (header : Header) (piece : List ℕ) (parts : List Part)
    : Type 0 where
  pub reading : TextReading
  pub reads : ReadsText grid reading
  pub header_is : reading.header ≡ Some header
  pub piece_is : reading.text ≡ piece
  pub parts_are : reads.framed.parts ≡ parts

-- The parts of several symbols, one after the other.
unfoldable pub joined_parts : List (List Part) → List Part
joined_parts [] = []
joined_parts (parts ∷ symbols) = parts ++ joined_parts symbols

-- A reader finds a text in 2 to 16 grids, in whatever order they are given. Each grid has a header
-- with its position, the number of grids, and the parity of the whole text, which is the exclusive
-- or of all its bytes in UTF-8. The positions are 1, 2 and so on, each once. The text is found both
-- ways. A reader that takes each grid by itself finds pieces, which in this order are the text
-- (`text_is`). A reader that joins the grids reads the text in the parts of all of them, one after
-- the other: there a designator stays in force from one grid to the next, and each Kanji segment is
-- one of all grids (`joined`).
pub record ReadsTextMessage (grids : List (List Color)) (text : List ℕ) : Type 0 where
  pub in_order : List (List Color)
  pub pieces : List (List ℕ)
  pub parts : List (List Part)
  pub enough : IsTotal (length grids)
  pub same_grids : IsPermutation grids in_order
  pub a_piece_each : length pieces ≡ length grids
  pub parts_each : length parts ≡ length grids
  pub each_read : (i : ℕ) → i < length grids →
      FindsPiece (slice_index_or in_order i [])
      (header_at (i + 1) (length grids) (encode_utf8_all text)) (slice_index_or pieces i [])
      (slice_index_or parts i [])
  pub text_is : text ≡ concat pieces
  pub joined : IsReadAs (joined_parts parts) text

-- No grids can be read as two texts, in whatever order they are given.
abbrev pub HaveOneTextMessage : Type 0
HaveOneTextMessage =
    (grids shuffled : List (List Color)) (first second : List ℕ) →
    IsPermutation grids shuffled →
    ReadsTextMessage grids first → ReadsTextMessage shuffled second → first ≡ second

-- ---- What `smallest_text_sequence` returns

-- The grid is the smallest symbol in a manner, in a version up to a limit, of the part at an index
-- of a text in UTF-8, after its header.
abbrev pub IsSmallestPartAt : Manner → List ℕ → List ℕ → EcLevel → ℕ → ℕ → List Color → Type 0
IsSmallestPartAt manner message cuts level limit index grid =
    IsSmallestPartUpTo manner (header_at (index + 1) (length cuts + 1) message)
    (text_of_part message cuts index) level limit grid

-- The manner is the first in which no part is too long: in each that comes before it some part is.
abbrev pub IsFirstManner : Manner → List ℕ → List ℕ → EcLevel → ℕ → Type 0
IsFirstManner Ascii message cuts level limit = Unit {0}
IsFirstManner Paired message cuts level limit =
    IsSomePartTooLongIn Ascii message cuts level limit
IsFirstManner Designated message cuts level limit =
    IsSomePartTooLongIn Ascii message cuts level limit
    × IsSomePartTooLongIn Paired message cuts level limit

-- There is a symbol for each part of a text in UTF-8, and it is the smallest one of its part in a
-- manner (`each_smallest`), which is the same for all of them (`manner`, `first`). In any order, a
-- reader finds the text in the symbols, both alone and joined (`reads`), and no other text (`only`).
pub record AreSmallestTextSymbols (message cuts : List ℕ) (level : EcLevel) (limit : ℕ)
    (grids : List (List Color)) : Type 0 where
  pub manner : Manner
  pub first : IsFirstManner manner message cuts level limit
  pub a_grid_each : length grids ≡ length cuts + 1
  pub each_smallest : (i : ℕ) → i < length grids →
      IsSmallestPartAt manner message cuts level limit i (slice_index_or grids i [])
  pub reads : (shuffled : List (List Color)) → IsPermutation grids shuffled →
      ReadsTextMessage shuffled (chars message)
  pub only : (shuffled : List (List Color)) (other : List ℕ) →
      IsPermutation grids shuffled → ReadsTextMessage shuffled other → other ≡ chars message

-- The symbols of all parts in a manner, in which a reader finds the text.
pub record AreSymbolsIn (manner : Manner) (message cuts : List ℕ) (level : EcLevel) (limit : ℕ)
    (grids : List (List Color)) : Type 0 where
  pub a_grid_each : length grids ≡ length cuts + 1
  pub each_smallest : (i : ℕ) → i < length grids →
      IsSmallestPartAt manner message cuts level limit i (slice_index_or grids i [])
  pub reads : ReadsTextMessage grids (chars message)

-- ---- Errors

-- Why there are no symbols in a manner: some part is too long in it, or an allocation failed.
abbrev pub HasNoSymbolsIn : Manner → List ℕ → List ℕ → EcLevel → ℕ → QrError → Type 0
HasNoSymbolsIn manner message cuts level limit DataTooLong =
    IsSomePartTooLongIn manner message cuts level limit
HasNoSymbolsIn manner message cuts level limit OutOfMemory = Unit {0}
HasNoSymbolsIn manner message cuts level limit other = ⊥

-- The same in all manners.
abbrev pub HasNoSymbols : List ℕ → List ℕ → EcLevel → ℕ → QrError → Type 0
HasNoSymbols message cuts level limit DataTooLong =
    IsSomeTextPartTooLong message cuts level limit
HasNoSymbols message cuts level limit OutOfMemory = Unit {0}
HasNoSymbols message cuts level limit other = ⊥

-- The errors of `smallest_text_sequence`, and when each is returned, in this order: the greatest
-- version is outside 1 to 40; the number of symbols is not 2 to 16, which the error has, or 255;
-- some part is too long in each manner. `OutOfMemory` says only that the first two do not hold.
abbrev pub IsTextSequenceRefusal : List ℕ → List ℕ → EcLevel → ℤ → QrError → Type 0
IsTextSequenceRefusal message cuts level limit DataTooLong =
    IsNormalNumber limit × IsTotal (length cuts + 1)
    × IsSomeTextPartTooLong message cuts level (nat_abs limit)
IsTextSequenceRefusal message cuts level limit OutOfMemory =
    IsNormalNumber limit × IsTotal (length cuts + 1)
IsTextSequenceRefusal message cuts level limit other =
    IsTotalRefusal (length cuts + 1) limit other
