-- The version that bytes take without the Kanji mode: the smallest in which some pieces of them
-- fit, and those with the fewest bits there (ISO/IEC 18004:2006, "Data analysis" of the encode
-- procedure).
use Rattle.std.specs.Prelude.{◌≡◌, ℕ, ◌<◌, ◌≤◌, List, length, Some, All}
use Rattle.qrcode_base.specs.Symbols.{capacity}
use Rattle.qrcode_base.specs.declared.symbols.TheConstants.{LONGEST_DATA}
use Rattle.qrcode_base.specs.declared.types.EcLevel.{EcLevel}
use Rattle.qrcode_base.specs.declared.types.Version.{Version}
use Rattle.qrcode_base.specs.declared.types.errors.QrError.{QrError}
use Rattle.qrcode_base.specs.declared.types.errors.QrError.TheVariants.{DataTooLong, OutOfMemory}
use Rattle.qrcode_bits.specs.Parsing.{parsed}
use Rattle.qrcode_bits.specs.Plans.{FitsNot, normal}
use Rattle.qrcode_bits.specs.Spelling.{Piece}
use Rattle.qrcode_bits.specs.declared.optimize.Segment.{Segment}
use Rattle.smallest_symbols.specs.BytePieces.{ArePiecesOf, NoPiecesFit, NoPiecesFitUpTo, PiecesFit}
use Rattle.smallest_symbols.specs.BytePieces.{bits_of_pieces}

-- ---- Plans of parsed segments

-- The segments are the parsed ones of at most 7089 bytes.
abbrev pub AreParsed : List Segment → Type 0
AreParsed segments =
    (bytes : List ℕ) × All (λ b. b < 256) bytes × (segments ≡ parsed bytes)
    × (length bytes ≤ LONGEST_DATA)

-- Each plan of the segments takes at least this number of bits: none fits a version that holds
-- fewer.
abbrev pub AreNeeded : List Segment → ℕ → Type 0
AreNeeded segments bits =
    (bytes : List ℕ) (version : Version) (level : EcLevel) (limit : ℕ) →
    segments ≡ parsed bytes → capacity version level ≡ Some limit → limit < bits →
    FitsNot 0 bytes version level

-- ---- Versions

-- No other pieces of the bytes take fewer bits in a version.
abbrev pub AreFewestBits : Version → List ℕ → ℕ → Type 0
AreFewestBits version bytes bits =
    (pieces : List Piece) → ArePiecesOf version bytes pieces → bits ≤ bits_of_pieces version pieces

-- No pieces of the bytes fit a version from one number on and before another.
abbrev pub NoPiecesFitBefore : ℕ → List ℕ → EcLevel → ℕ → Type 0
NoPiecesFitBefore least bytes level end =
    (number : ℕ) → least ≤ number → number < end → NoPiecesFit (normal number) level bytes

-- The smallest Normal version from a least one up to a greatest one in which some pieces of the
-- bytes fit, and pieces that take the fewest bits there.
pub record IsByteChoice (least : ℕ) (bytes : List ℕ) (level : EcLevel) (limit number : ℕ)
    (pieces : List Piece) : Type 0 where
  pub from : least ≤ number
  pub up_to : number ≤ limit
  pub fits : PiecesFit (normal number) level bytes pieces
  pub fewest : AreFewestBits (normal number) bytes (bits_of_pieces (normal number) pieces)
  pub smallest : NoPiecesFitBefore least bytes level number

-- Why bytes have no choice in the versions of a kind up to a number: no pieces of them fit any of
-- the versions, or an allocation failed.
abbrev pub HasNoByteChoice : (ℕ → Version) → EcLevel → List ℕ → ℕ → QrError → Type 0
HasNoByteChoice kind level bytes limit DataTooLong = NoPiecesFitUpTo kind level bytes limit
HasNoByteChoice kind level bytes limit OutOfMemory = Unit {0}
HasNoByteChoice kind level bytes limit other = ⊥
