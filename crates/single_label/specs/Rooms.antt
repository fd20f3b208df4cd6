-- Why a content is too long for a symbol, and at which level it is not.
use Rattle.std.specs.Prelude.{◌≡◌, ◌<◌, ◌⊎◌, Bool, false, pos, ℕ}
use Rattle.std.specs.Prelude.{◌+◌, ◌-◌, ◌*◌, ◌/◌, ◌%◌, nat_lt, if◌then◌else◌, unwrap_or}
use Rattle.std.specs.Prelude.{List, [], ◌∷◌, length, Option, Some, None, chars}
use Rattle.qrcode_base.specs.Modes.{indicator_width, count_width}
use Rattle.qrcode_base.specs.Symbols.{capacity}
use Rattle.qrcode_base.specs.declared.symbols.TheConstants.{LONGEST_DATA}
use Rattle.qrcode_base.specs.declared.types.Color.{Color}
use Rattle.qrcode_base.specs.declared.types.EcLevel.{EcLevel}
use Rattle.qrcode_base.specs.declared.types.EcLevel.TheVariants.{L, M, Q, H}
use Rattle.qrcode_base.specs.declared.types.Mode.{Mode}
use Rattle.qrcode_base.specs.declared.types.Mode.TheVariants.{Numeric, Byte}
use Rattle.qrcode_base.specs.declared.types.Version.{Version}
use Rattle.qrcode_base.specs.declared.types.Version.TheVariants.{Normal, Micro as MicroVersion}
use Rattle.qrcode_core.specs.declared.options.SymbolOptions.{SymbolOptions}
use Rattle.label_words.specs.Choices.{is_micro_content, can_be_split}
use Rattle.single_label.specs.Contents.{IsSymbolAs, IsStopAs, IsPlain, is_all_ascii, HasText}
use Rattle.single_label.specs.Contents.{IsBeyondAscii}
use Rattle.label_words.specs.declared.command.Content.{Content}
use Rattle.label_words.specs.declared.command.Content.TheVariants.{Auto, Text, Gs1, UncheckedGs1}
use Rattle.std.specs.Str.{IsUtf8}
use Rattle.label_words.specs.declared.command.Label.{Label}
use Rattle.label_words.specs.declared.command.Portion.{Portion}
use Rattle.label_words.specs.declared.command.Portion.TheVariants.{Whole}
use Rattle.single_label.specs.declared.stop.Stop.{Stop}
use Rattle.single_label.specs.declared.stop.TextLength.{TextLength}
use Rattle.single_label.specs.declared.stop.TooLong.{TooLong}
use Rattle.text_plans.specs.Costs.{AreLeast, bits_of_parts}
use Rattle.character_sets.specs.Reading.{Part}

-- ---- Room

-- How many bits stand before the segments: of a text the indicator of ECI and the designator 26, of
-- GS1 elements the indicator FNC1 in first position (ISO/IEC 18004:2006, "Extended Channel
-- Interpretation (ECI) mode", "FNC1 modes").
abbrev pub IsFrontWidth : Content → List ℕ → ℕ → Type 0
IsFrontWidth Auto bytes width =
    (IsPlain bytes × (width ≡ 0)) ⊎ ((is_all_ascii bytes ≡ false) × IsUtf8 bytes × (width ≡ 12))
IsFrontWidth Text bytes width = width ≡ 12
IsFrontWidth Gs1 bytes width = width ≡ 4
IsFrontWidth UncheckedGs1 bytes width = width ≡ 4
IsFrontWidth _ bytes width = width ≡ 0

-- How many bits a version has room for at a level.
abbrev pub bits_room : Version → EcLevel → ℕ
bits_room version level = unwrap_or (capacity version level) 0

-- How many bits the characters of one segment of a mode have in a version at a level, after a front
-- of this width.
abbrev pub characters_room : Version → EcLevel → Mode → ℕ → ℕ
characters_room version level mode front =
    bits_room version level - (front + (indicator_width version + count_width version mode))

-- The bytes (8 bits each) and the digits (10 bits for three, 7 for two, 4 for one) for which one
-- segment has room (ISO/IEC 18004:2006, "Data encodation").
abbrev pub bytes_room : Version → EcLevel → ℕ → ℕ
bytes_room version level front = characters_room version level Byte front / 8

abbrev pub digits_in : ℕ → ℕ
digits_in bits =
    3 * (bits / 10) + (if nat_lt (bits % 10) 4 then 0 else (if nat_lt (bits % 10) 7 then 1 else 2))

abbrev pub digits_room : Version → EcLevel → ℕ → ℕ
digits_room version level front = digits_in (characters_room version level Numeric front)

-- The greatest version that a label can have.
abbrev pub greatest_version : Label → Version
greatest_version label =
    if is_micro_content label.content then MicroVersion (pos 4) else Normal label.symbol.max_version

-- ---- Lower levels

abbrev pub lower_levels : EcLevel → List EcLevel
lower_levels L = []
lower_levels M = L ∷ []
lower_levels Q = M ∷ L ∷ []
lower_levels H = Q ∷ M ∷ L ∷ []

abbrev pub at_level : SymbolOptions → EcLevel → SymbolOptions
at_level options level = record options { level = level }

-- There is a symbol of the content at a level, or none for some reason.
abbrev pub FitsAt : Label → List ℕ → EcLevel → Type 0
FitsAt label content level =
    (grid : List Color) × IsSymbolAs label.content (at_level label.symbol level) content grid

abbrev pub StopsAtLevel : Label → List ℕ → EcLevel → Type 0
StopsAtLevel label content level =
    (stop : Stop) × IsStopAs label.content (at_level label.symbol level) content stop

-- The first of some levels at which there is a symbol, if there is one.
abbrev pub IsFirstFitting : Label → List ℕ → List EcLevel → Option EcLevel → Type 0
IsFirstFitting label content [] found = found ≡ None
IsFirstFitting label content (level ∷ levels) found =
    (FitsAt label content level × (found ≡ Some level))
    ⊎ (StopsAtLevel label content level × IsFirstFitting label content levels found)

-- ---- The length of a text

-- The bits that a text takes in a version, written in the fewest, and the bits that the version has
-- room for at a level.
pub record IsTextLength (version : Version) (level : EcLevel) (text : List ℕ) (found : TextLength) :
    Type 0 where
  pub parts : List Part
  pub least : AreLeast version text parts
  pub bits_are : found.bits ≡ bits_of_parts version parts
  pub room_is : found.room ≡ bits_room version level

-- The length of a text beyond ASCII in the greatest version that a label can have, if it was found.
-- It is not found where all ways to write the text take 32768 bits or more, or for lack of memory.
abbrev pub IsLengthReported : Label → List ℕ → Option TextLength → Type 0
IsLengthReported label content None = Unit {0}
IsLengthReported label content (Some found) =
    IsBeyondAscii content × HasText label.content content
    × IsTextLength (greatest_version label) label.symbol.level (chars content) found

-- ---- Too long

-- The labels of several symbols may stand for a label of the whole input, if they can carry its
-- content together.
abbrev pub splits_portion : Portion → Content → Bool
splits_portion Whole content = can_be_split content
splits_portion _ content = false

abbrev pub proposes_split : Label → Bool
proposes_split label = splits_portion label.portion label.content

-- A content is too long for the label's symbol: its length, the greatest version and the level, how
-- much there is room for, the greatest lower level at which there is a symbol, whether several
-- symbols can carry it, and the length of a text. Example: level H holds 1273 bytes or 3057 digits.
pub record IsTooLongAs (label : Label) (content : List ℕ) (long : TooLong) : Type 0 where
  pub length_is : long.length ≡ length content
  pub version_is : long.version ≡ greatest_version label
  pub level_is : long.level ≡ label.symbol.level
  pub front : ℕ
  pub front_is : IsFrontWidth label.content content front
  pub bytes_are : long.bytes ≡ bytes_room long.version long.level front
  pub digits_are : long.digits ≡ digits_room long.version long.level front
  pub fits : IsFirstFitting label content (lower_levels label.symbol.level) long.fits
  pub splits : long.can_be_split ≡ proposes_split label
  pub text : IsLengthReported label content long.text

-- There are more bytes than one label takes.
pub record IsTooLongForAny (label : Label) (long : TooLong) : Type 0 where
  pub many : LONGEST_DATA < long.length
  pub version_is : long.version ≡ greatest_version label
  pub level_is : long.level ≡ label.symbol.level
  pub fits : long.fits ≡ None
  pub splits : long.can_be_split ≡ proposes_split label
  pub text : long.text ≡ None
