-- The texts that a Micro symbol can be read as. It has no designators.
use Rattle.std.specs.Prelude.{◌≡◌, ◌<◌, ◌⊎◌, ℕ, pos, List, Some}
use Rattle.qrcode_base.specs.declared.types.Version.TheVariants.{Micro}
use Rattle.character_sets.specs.Bytes.{common_character}
use Rattle.character_sets.specs.Reading.{Part, pair_character}
use Rattle.text_plans.specs.Costs.{AreTextParts}

-- Some parts of a Micro symbol are read as the text. M4 has all modes.
abbrev pub HasMicroParts : List ℕ → Type 0
HasMicroParts text = (parts : List Part) × AreTextParts (Micro (pos 4)) text parts

-- A character of ASCII.
abbrev pub IsAsciiCharacter : ℕ → Type 0
IsAsciiCharacter c = c < 128

-- A character that is read beside Kanji segments: one of them, or one of ASCII but 5C and 7E (hex).
abbrev pub IsMixedCharacter : ℕ → Type 0
IsMixedCharacter c =
    (common_character c ≡ Some c)
    ⊎ ((lead : ℕ) × (trail : ℕ) × (pair_character lead trail ≡ Some c))
