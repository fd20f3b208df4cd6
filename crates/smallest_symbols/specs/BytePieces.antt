-- Pieces without the Kanji mode of which bytes consist, and which versions they fit (ISO/IEC
-- 18004:2006, "Data encodation").
use Rattle.std.specs.Prelude.{◌≡◌, ◌≢◌, ℕ, ◌≤◌, List, [], length, Some, All}
use Rattle.qrcode_base.specs.Symbols.{capacity}
use Rattle.qrcode_base.specs.declared.types.EcLevel.{EcLevel}
use Rattle.qrcode_base.specs.declared.types.Mode.TheVariants.{Kanji}
use Rattle.qrcode_base.specs.declared.types.Version.{Version}
use Rattle.qrcode_bits.specs.Frame.{message, spellings}
use Rattle.qrcode_bits.specs.Spelling.{IsSpellable, Piece}

-- No piece is in the Kanji mode.
abbrev pub HaveNoKanji : List Piece → Type 0
HaveNoKanji pieces = All (λ piece. piece.mode ≢ Kanji) pieces

-- The pieces are the bytes, one piece after the other. The version can spell each, none is empty,
-- and none is in the Kanji mode.
pub record ArePiecesOf (version : Version) (bytes : List ℕ) (pieces : List Piece) : Type 0 where
  pub message_is : message pieces ≡ bytes
  pub spellable : All (IsSpellable version) pieces
  pub nonempty : All (λ piece. piece.text ≢ []) pieces
  pub no_kanji : HaveNoKanji pieces

-- The number of bits of pieces: indicators, counts and characters.
abbrev pub bits_of_pieces : Version → List Piece → ℕ
bits_of_pieces version pieces = length (spellings version pieces)

-- Pieces that are the bytes fit a version at a level: the version has the level, and holds their
-- bits.
pub record PiecesFit (version : Version) (level : EcLevel) (bytes : List ℕ) (pieces : List Piece)
    : Type 0 where
  pub pieces_are : ArePiecesOf version bytes pieces
  pub limit : ℕ
  pub has_level : capacity version level ≡ Some limit
  pub within : bits_of_pieces version pieces ≤ limit

-- No pieces that are the bytes fit the version.
abbrev pub NoPiecesFit : Version → EcLevel → List ℕ → Type 0
NoPiecesFit version level bytes =
    (pieces : List Piece) → PiecesFit version level bytes pieces → ⊥

-- None fit any version of a kind up to a number.
abbrev pub NoPiecesFitUpTo : (ℕ → Version) → EcLevel → List ℕ → ℕ → Type 0
NoPiecesFitUpTo kind level bytes limit =
    (number : ℕ) → number ≤ limit → NoPiecesFit (kind number) level bytes
