-- The data bits of a symbol that is read as a text: the header of a symbol of a sequence,
-- designators and segments, terminator and padding (ISO/IEC 18004:2006, "Structured Append", "Data
-- encodation" and "Extended Channel Interpretation (ECI) mode").
use Rattle.std.specs.Prelude.{◌≡◌, ◌≢◌, ℕ, ◌^◌, ◌<◌, ◌≤◌, Bool, List, [], ◌++◌, length, flat_map}
use Rattle.std.specs.Prelude.{Option, Some, All}
use Rattle.qrcode_base.specs.Modes.{characters, count_width}
use Rattle.qrcode_base.specs.Numbers.{number_bits}
use Rattle.qrcode_base.specs.Symbols.{capacity}
use Rattle.qrcode_base.specs.declared.types.EcLevel.{EcLevel}
use Rattle.qrcode_base.specs.declared.types.Version.{Version}
use Rattle.qrcode_base.specs.declared.types.Version.TheVariants.{Normal, Micro}
use Rattle.qrcode_bits.specs.Frame.{HasHeader, Header, header_bits, tail}
use Rattle.qrcode_bits.specs.Spelling.{IsSpellable, piece_of, spelling}
use Rattle.qrcode_bits.specs.Stream.{Stream}
use Rattle.character_sets.specs.Reading.{Part, designator, segment}
use Rattle.text_plans.specs.Costs.{AreTextParts, bits_of_parts}

-- ---- Bits

-- The bits of a part. A designator has the ECI indicator 7 in four bits and its number in eight, as
-- each below 128 has; a segment has its indicator, its count and its characters. Example: the
-- designator of UTF-8, which is 26, has 0111 00011010.
abbrev pub part_spelling : Version → Part → List Bool
part_spelling version (designator number) = number_bits 4 7 ++ number_bits 8 number
part_spelling version (segment mode bytes) = spelling version (piece_of mode bytes)

-- The bits of parts, concatenated.
abbrev pub part_spellings : Version → List Part → List Bool
part_spellings version parts = flat_map (part_spelling version) parts

-- The bits of a header, if there is one, and after them those of parts.
abbrev pub headed_bits : Version → Option Header → List Part → List Bool
headed_bits version header parts = header_bits header ++ part_spellings version parts

-- The number of characters of a segment fits its field.
abbrev pub IsCounted : Version → Part → Type 0
IsCounted version (designator number) = Unit {0}
IsCounted version (segment mode bytes) =
    characters mode (length bytes) < 2 ^ count_width version mode

-- A version can spell a part: it can have it, the number of a designator is below 128, and a
-- segment is valid in its mode, with a count that fits its field.
abbrev pub IsPartSpelled : Part → Version → Type 0
IsPartSpelled (designator number) (Normal n) = number < 128
IsPartSpelled (designator number) (Micro n) = ⊥
IsPartSpelled (segment mode bytes) version =
    IsSpellable version (piece_of mode bytes) × (bytes ≢ [])

-- The new stream has the bits of parts appended.
pub record SpellsParts (old new : Stream) (parts : List Part) : Type 0 where
  pub bits_are : new.bits ≡ old.bits ++ part_spellings old.version parts
  pub version_is : new.version ≡ old.version

-- ---- Frames

-- A text frame is all data bits of a symbol, as many as its capacity: the bits of a header, if it
-- is a symbol of a sequence, and of parts, both of which the version can have, terminator and
-- padding. The parts are read as the text. The payload is the number of bits before the terminator,
-- with the 20 of a header.
pub record IsTextFrame (version : Version) (level : EcLevel) (header : Option Header)
    (text : List ℕ) (payload : ℕ) (bits : List Bool) : Type 0 where
  pub limit : ℕ
  pub parts : List Part
  pub limit_is : capacity version level ≡ Some limit
  pub has_header : HasHeader version header
  pub written : AreTextParts version text parts
  pub counted : All (IsCounted version) parts
  pub payload_is : payload ≡ length (headed_bits version header parts)
  pub fits : payload ≤ limit
  pub bits_are : bits ≡ headed_bits version header parts ++ tail version limit payload

-- ---- Which versions a text fits

-- Parts that are read as a text fit a version at a level: the version has the level, can have the
-- parts, and holds their bits.
pub record PartsFit (version : Version) (level : EcLevel) (text : List ℕ) (parts : List Part)
    : Type 0 where
  pub written : AreTextParts version text parts
  pub limit : ℕ
  pub has_level : capacity version level ≡ Some limit
  pub within : bits_of_parts version parts ≤ limit

-- No parts that are read as the text fit the version.
abbrev pub NoPartsFit : Version → EcLevel → List ℕ → Type 0
NoPartsFit version level text = (parts : List Part) → PartsFit version level text parts → ⊥

-- None fit any version of a kind up to a number.
abbrev pub NoVersionFits : (ℕ → Version) → EcLevel → List ℕ → ℕ → Type 0
NoVersionFits kind level text limit =
    (number : ℕ) → number ≤ limit → NoPartsFit (kind number) level text
