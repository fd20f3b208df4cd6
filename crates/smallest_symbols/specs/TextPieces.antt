-- The smallest symbol of a piece of a text that is spread over several symbols (ISO/IEC 18004:2006,
-- "Structured Append"). The promise is `IsSmallestTextPart`, near the end of the file.
use Rattle.std.specs.Prelude.{◌≡◌, ℕ, ◌<◌, ◌≤◌, List, Some}
use Rattle.qrcode_base.specs.declared.types.Color.{Color}
use Rattle.qrcode_base.specs.declared.types.EcLevel.{EcLevel}
use Rattle.qrcode_bits.specs.Frame.{Header}
use Rattle.qrcode_bits.specs.Plans.{normal}
use Rattle.qrcode_core.specs.Headline.{HasBlocksApart}
use Rattle.qrcode_grid.specs.Masks.{HasFunctionalColors}
use Rattle.qrcode_grid.specs.Penalty.{IsFirstLeastMask}
use Rattle.qrcode_grid.specs.declared.canvas.MaskPattern.{MaskPattern}
use Rattle.text_plans.specs.Manners.{AreLeastIn, ArePartsIn}
use Rattle.text_plans.specs.declared.rules.Manner.{Manner}
use Rattle.smallest_symbols.specs.TextHeadline.{IsFarFromOtherTexts, ReadsText, TextReading}
use Rattle.smallest_symbols.specs.TextHeadline.{text_reading_of}
use Rattle.smallest_symbols.specs.TextParts.{NoPartsFitAfterHeader}

-- ---- No smaller symbol

-- Every grid that is read as the text at the level, after whatever header, and whose parts are
-- those of the manner, has the same or a greater version number, and in the same version at least as
-- many payload bits.
abbrev pub NoPieceIsSmaller : Manner → List ℕ → EcLevel → ℕ → ℕ → Type 0
NoPieceIsSmaller manner text level number payload =
    (grid : List Color) (other bits : ℕ) (mask : MaskPattern) (header : Header) →
    (reads : ReadsText grid
    (text_reading_of (normal other) level mask (Some header) text bits)) →
    ArePartsIn manner (normal other) text reads.framed.parts →
    (number ≤ other) × (other ≡ number → payload ≤ bits)

-- No grid of a version up to a number is read as the text at the level, after whatever header, by
-- parts of the manner.
abbrev pub NoGridReadsPiece : Manner → List ℕ → EcLevel → ℕ → Type 0
NoGridReadsPiece manner text level limit =
    (grid : List Color) (number payload : ℕ) (mask : MaskPattern) (header : Header) →
    number ≤ limit →
    (reads : ReadsText grid
    (text_reading_of (normal number) level mask (Some header) text payload)) →
    ArePartsIn manner (normal number) text reads.framed.parts → ⊥

-- ---- The smallest symbol

-- The smallest symbol of a piece of a text at a level, after a header, in a manner.
--
-- A reader of texts finds the header and the text at the level in it (`reads`), and nothing else:
-- no other header, text, version, level, mask or number of payload bits, and no text without a
-- header (`only`). Its functional modules have their colours (`functional`). Of all parts that are
-- read as the text in the manner its own take the fewest bits in its version, and of those they are
-- the fewest (`least`); none fit a smaller version after a header (`smallest`). So no grid of the
-- manner that is read as the text at the level, after whatever header, is smaller (`none_smaller`).
-- The mask is the first under which the grid has the least penalty (`best_mask`). Each block
-- differs from every other sound block of its length in more codewords than it has correction
-- codewords (`apart`), and every grid of the same version and level that is read as another text,
-- or after another header or none, differs from this one by as much in some block (`far`).
pub record IsSmallestTextPart (manner : Manner) (header : Header) (text : List ℕ)
    (level : EcLevel) (grid : List Color) : Type 0 where
  pub number : ℕ
  pub mask : MaskPattern
  pub payload : ℕ
  pub reading : TextReading
  pub says : reading ≡ text_reading_of (normal number) level mask (Some header) text payload
  pub reads : ReadsText grid reading
  pub only : (other : TextReading) → ReadsText grid other → other ≡ reading
  pub functional : HasFunctionalColors (normal number) level mask grid
  pub least : AreLeastIn manner (normal number) text reads.framed.parts
  pub smallest : (smaller : ℕ) → smaller < number →
      NoPartsFitAfterHeader manner (normal smaller) level text
  pub none_smaller : NoPieceIsSmaller manner text level number payload
  pub best_mask : IsFirstLeastMask (normal number) level mask grid
  pub apart : HasBlocksApart reads.carries
  pub far : IsFarFromOtherTexts grid reading reads

-- The smallest symbol of a piece, in a version up to a limit.
pub record IsSmallestPartUpTo (manner : Manner) (header : Header) (text : List ℕ)
    (level : EcLevel) (limit : ℕ) (grid : List Color) : Type 0 where
  pub best : IsSmallestTextPart manner header text level grid
  pub up_to : best.number ≤ limit
