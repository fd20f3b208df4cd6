-- How all symbols of a sequence are written, so that readers that take each symbol by itself and
-- readers that join them find one text. A reader that joins them keeps a designator in force from
-- one symbol to the next, and takes bytes for JIS X 0201 if any of the symbols has a Kanji segment.
use Rattle.std.specs.Prelude.{◌≡◌, ℕ, ◌≤◌, Bool, true, false, List, [], ◌∷◌, length, All, None}
use Rattle.std.specs.Prelude.{Some}
use Rattle.qrcode_base.specs.declared.types.Version.{Version}
use Rattle.character_sets.specs.Reading.{Part, designator, segment, has_kanji, has_no_designator}
use Rattle.character_sets.specs.Reading.{read_parts}
use Rattle.text_plans.specs.Costs.{HasPart, bits_of_parts}
use Rattle.text_plans.specs.declared.rules.Manner.{Manner}
use Rattle.text_plans.specs.declared.rules.Manner.TheVariants.{Ascii, Paired, Designated}

-- No symbol has a designator.
abbrev pub plain_in : Manner → Bool
plain_in Ascii = true
plain_in Paired = true
plain_in Designated = false

-- Some symbol may have a Kanji segment.
abbrev pub mixed_in : Manner → Bool
mixed_in Ascii = false
mixed_in Paired = true
mixed_in Designated = true

-- There are no parts, or the first is a designator.
unfoldable pub begins_with_designator : List Part → Bool
begins_with_designator [] = true
begins_with_designator (designator number ∷ parts) = true
begins_with_designator (segment mode bytes ∷ parts) = false

abbrev pub BeginsAsIn : Manner → List Part → Type 0
BeginsAsIn Ascii parts = Unit {0}
BeginsAsIn Paired parts = Unit {0}
BeginsAsIn Designated parts = begins_with_designator parts ≡ true

-- Parts that a version can have, and that are read as a text in a manner.
pub record ArePartsIn (manner : Manner) (version : Version) (text : List ℕ) (parts : List Part)
    : Type 0 where
  pub read : read_parts (plain_in manner) (mixed_in manner) None parts ≡ Some text
  pub had : All (HasPart version) parts
  pub plain : plain_in manner ≡ true → has_no_designator parts ≡ true
  pub mixed : has_kanji parts ≡ true → mixed_in manner ≡ true
  pub begins : BeginsAsIn manner parts

-- Of all parts that a version can have and that are read as the text in the manner these take the
-- fewest bits, and no others of as many bits are fewer parts.
pub record AreLeastIn (manner : Manner) (version : Version) (text : List ℕ) (parts : List Part)
    : Type 0 where
  pub written : ArePartsIn manner version text parts
  pub bits : (others : List Part) → ArePartsIn manner version text others →
      bits_of_parts version parts ≤ bits_of_parts version others
  pub fewest : (others : List Part) → ArePartsIn manner version text others →
      bits_of_parts version others ≡ bits_of_parts version parts → length parts ≤ length others
