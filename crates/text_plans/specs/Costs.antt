-- What the parts of a text take in a version, and the parts that take the least (ISO/IEC
-- 18004:2006, "Mode indicator", "Character count indicator", "Extended Channel Interpretation
-- (ECI) mode").
use Rattle.std.specs.Prelude.{◌≡◌, ◌≢◌, ℕ, ◌+◌, ◌≤◌, List, [], ◌∷◌, length, All}
use Rattle.qrcode_base.specs.declared.types.Version.{Version}
use Rattle.qrcode_base.specs.declared.types.Version.TheVariants.{Normal, Micro}
use Rattle.qrcode_base.specs.Modes.{HasMode, characters, count_width, data_bits, indicator_width}
use Rattle.character_sets.specs.Reading.{Part, IsReadAs, designator, segment}

-- A version can have a part: a segment of some bytes in a mode that it has, or, in a Normal
-- version, a designator.
abbrev pub HasPart : Version → Part → Type 0
HasPart (Normal n) (designator number) = Unit {0}
HasPart (Micro n) (designator number) = ⊥
HasPart version (segment mode bytes) = HasMode version mode × (bytes ≢ [])

-- The bits of a part: indicator and number of a designator, at most 127; or indicator, count and
-- data of a segment. Example: three bytes in version 1 take 4, 8 and 24 bits.
abbrev pub bits_of_part : Version → Part → ℕ
bits_of_part version (designator number) = 12
bits_of_part version (segment mode bytes) =
    indicator_width version + count_width version mode
    + data_bits mode (characters mode (length bytes))

-- The bits of parts together.
abbrev pub bits_of_parts : Version → List Part → ℕ
bits_of_parts version [] = 0
bits_of_parts version (part ∷ parts) = bits_of_part version part + bits_of_parts version parts

-- Parts that a version can have, and that are read as a text.
pub record AreTextParts (version : Version) (text : List ℕ) (parts : List Part) : Type 0 where
  pub read : IsReadAs parts text
  pub had : All (HasPart version) parts

-- Of all parts that a version can have and that are read as the text these take the fewest bits,
-- and no others of as many bits are fewer parts.
pub record AreLeast (version : Version) (text : List ℕ) (parts : List Part) : Type 0 where
  pub written : AreTextParts version text parts
  pub bits : (others : List Part) → AreTextParts version text others →
      bits_of_parts version parts ≤ bits_of_parts version others
  pub fewest : (others : List Part) → AreTextParts version text others →
      bits_of_parts version others ≡ bits_of_parts version parts → length parts ≤ length others
