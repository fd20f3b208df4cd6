-- A message that is spread over several symbols (ISO/IEC 18004:2006, "Structured Append").
use Rattle.std.specs.Prelude.{◌≡◌, ℕ, ℤ, nat_abs, ◌+◌, ◌<◌, min, List, [], ◌∷◌, length, drop}
use Rattle.std.specs.Prelude.{slice_index_or}
use Rattle.std.specs.Prelude.{slice_range, fold, bit_xor, Some, IsPermutation}
use Rattle.std.specs.List.{concat}
use Rattle.qrcode_base.specs.declared.types.Color.{Color}
use Rattle.qrcode_base.specs.declared.types.EcLevel.{EcLevel}
use Rattle.qrcode_base.specs.declared.types.errors.QrError.{QrError}
use Rattle.qrcode_base.specs.declared.types.errors.QrError.TheVariants.{DataTooLong}
use Rattle.qrcode_base.specs.declared.types.errors.QrError.TheVariants.{InvalidResourceLimits}
use Rattle.qrcode_base.specs.declared.types.errors.QrError.TheVariants.{InvalidStructuredAppend}
use Rattle.qrcode_base.specs.declared.types.errors.QrError.TheVariants.{OutOfMemory}
use Rattle.qrcode_bits.specs.Plans.{normal, FitsNone}
use Rattle.qrcode_base.specs.Symbols.{IsNormalNumber}
use Rattle.qrcode_bits.specs.Frame.{Header, header_of, IsTotal, front_of}
use Rattle.qrcode_bits.specs.Contents.{parsed_bytes, content_bits}
use Rattle.qrcode_bits.specs.declared.bits.front.Content.{Content}
use Rattle.qrcode_core.specs.Headline.{IsBestUpTo, Reading, Reads}

-- ---- What a reader finds

-- The parity of a message: the exclusive or of all its bytes.
abbrev pub parity_of : List ℕ → ℕ
parity_of message = fold bit_xor 0 message

-- The header of the symbol at a position, counted from 1, of `total` symbols that carry a message.
abbrev pub header_at : ℕ → ℕ → List ℕ → Header
header_at place total message = header_of place total (parity_of message)

-- A reader finds a piece of a message in the grid, with a header before its content.
pub record ReadsPiece (grid : List Color) (header : Header) (content : Content) (piece : List ℕ) :
    Type 0 where
  pub reading : Reading
  pub reads : Reads grid reading
  pub front_is : reading.front ≡ front_of (Some header) content
  pub piece_is : reading.bytes ≡ piece

-- A reader finds a message of one content in 2 to 16 grids, in whatever order they are given. Each
-- grid has a header with its position, the number of grids, and the parity of the whole message.
-- The positions are 1, 2 and so on, each once, and the pieces in this order are the message.
pub record ReadsMessage (grids : List (List Color)) (content : Content) (message : List ℕ) :
    Type 0 where
  pub in_order : List (List Color)
  pub pieces : List (List ℕ)
  pub enough : IsTotal (length grids)
  pub same_grids : IsPermutation grids in_order
  pub a_piece_each : length pieces ≡ length grids
  pub each_read : (i : ℕ) → i < length grids →
      ReadsPiece (slice_index_or in_order i []) (header_at (i + 1) (length grids) message) content
      (slice_index_or pieces i [])
  pub message_is : message ≡ concat pieces

-- No grids can be read as two messages, in whatever order they are given.
abbrev pub HaveOneMessage : Type 0
HaveOneMessage =
    (grids shuffled : List (List Color)) (c d : Content) (first second : List ℕ) →
    IsPermutation grids shuffled →
    ReadsMessage grids c first → ReadsMessage shuffled d second → (c ≡ d) × (first ≡ second)

-- ---- What `symbol_sequence` returns

-- The parts of a message: from a start to the first cut, from each cut to the next, and from the
-- last cut to the end.
abbrev pub parts_from : ℕ → List ℕ → List ℕ → List (List ℕ)
parts_from start [] message = drop start message ∷ []
parts_from start (cut ∷ cuts) message =
    slice_range message start cut ∷ parts_from cut cuts message

-- The parts of a whole message: from its start to the first cut, from each cut to the next, and
-- from the last to the end. A part may be empty.
abbrev pub parts_at : List ℕ → List ℕ → List (List ℕ)
parts_at cuts message = parts_from 0 cuts message

-- The grid is the best symbol, in a version up to a limit, of the part of a message at an index,
-- after its header.
abbrev pub IsBestPart : Content → List ℕ → List ℕ → EcLevel → ℕ → ℕ → List Color → Type 0
IsBestPart content message cuts level limit index grid =
    IsBestUpTo (front_of (Some (header_at (index + 1) (length cuts + 1) message)) content)
    (slice_index_or (parts_at cuts message) index []) level limit grid

-- There is a symbol for each part of the message, and it is the best one of its part (`each_best`).
-- In any order, a reader finds the message in the symbols (`reads`), and no other message (`only`).
pub record AreBestSymbols (content : Content) (message cuts : List ℕ) (level : EcLevel) (limit : ℕ)
    (grids : List (List Color)) : Type 0 where
  pub a_grid_each : length grids ≡ length cuts + 1
  pub each_best : (i : ℕ) → i < length grids →
      IsBestPart content message cuts level limit i (slice_index_or grids i [])
  pub reads : (shuffled : List (List Color)) → IsPermutation grids shuffled →
      ReadsMessage shuffled content message
  pub only : (shuffled : List (List Color)) (c : Content) (other : List ℕ) →
      IsPermutation grids shuffled → ReadsMessage shuffled c other →
      (c ≡ content) × (other ≡ message)

-- ---- Errors

-- No plan of the part at an index fits any version up to a limit, after the 20 bits of the header
-- and those of the content.
abbrev pub IsPartTooLongAt : Content → List ℕ → List ℕ → EcLevel → ℕ → ℕ → Type 0
IsPartTooLongAt content message cuts level limit index =
    FitsNone normal (20 + length (content_bits content))
    (parsed_bytes content (slice_index_or (parts_at cuts message) index [])) level limit

-- Some part is too long: no plan of it fits any version up to the limit, after the 20 bits of its
-- header and those of the content.
abbrev pub IsSomePartTooLong : Content → List ℕ → List ℕ → EcLevel → ℕ → Type 0
IsSomePartTooLong content message cuts level limit =
    (i : ℕ) × (i < length cuts + 1) × IsPartTooLongAt content message cuts level limit i

-- There is no sequence of this many symbols up to a version: the version is checked first, then the
-- number of symbols.
abbrev pub IsTotalRefusal : ℕ → ℤ → QrError → Type 0
IsTotalRefusal total limit InvalidResourceLimits = IsNormalNumber limit → ⊥
IsTotalRefusal total limit (InvalidStructuredAppend value) =
    IsNormalNumber limit × (IsTotal total → ⊥) × (value ≡ min total 255)
IsTotalRefusal total limit other = ⊥

-- The errors of `symbol_sequence`, and when each is returned, in this order: the greatest version
-- is outside 1 to 40; the number of symbols is not 2 to 16, which the error has, or 255; some part
-- is too long. `OutOfMemory` says only that the first two do not hold.
abbrev pub IsSequenceRefusal : Content → List ℕ → List ℕ → EcLevel → ℤ → QrError → Type 0
IsSequenceRefusal content message cuts level limit DataTooLong =
    IsNormalNumber limit × IsTotal (length cuts + 1)
    × IsSomePartTooLong content message cuts level (nat_abs limit)
IsSequenceRefusal content message cuts level limit OutOfMemory =
    IsNormalNumber limit × IsTotal (length cuts + 1)
IsSequenceRefusal content message cuts level limit other =
    IsTotalRefusal (length cuts + 1) limit other
