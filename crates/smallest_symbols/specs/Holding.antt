-- Which versions and levels hold a number of bits (ISO/IEC 18004:2006, table 7).
use Rattle.std.specs.Prelude.{◌≡◌, ◌≢◌, ℕ, ◌<◌, ◌≤◌, Bool, true, false, Some}
use Rattle.qrcode_base.specs.Symbols.{capacity, column_of_level}
use Rattle.qrcode_base.specs.declared.types.EcLevel.{EcLevel}
use Rattle.qrcode_base.specs.declared.types.EcLevel.TheVariants.{L}
use Rattle.qrcode_bits.specs.Plans.{normal}

-- A version holds a number of bits at a level.
abbrev pub HoldsBits : ℕ → ℕ → EcLevel → Type 0
HoldsBits bits number level =
    (limit : ℕ) × (capacity (normal number) level ≡ Some limit) × (bits ≤ limit)

-- No version from one number on and before another holds the bits.
abbrev pub NoneHoldsBefore : ℕ → EcLevel → ℕ → ℕ → Type 0
NoneHoldsBefore bits level first end =
    (number : ℕ) → first ≤ number → number < end → HoldsBits bits number level → ⊥

-- The first version from one number on, and before another, that holds the bits.
pub record IsFirstHolding (bits : ℕ) (level : EcLevel) (first end number : ℕ) : Type 0 where
  pub from : first ≤ number
  pub before : number < end
  pub holds : HoldsBits bits number level
  pub least : NoneHoldsBefore bits level first number

-- The greatest level at which a version holds the bits, or L.
pub record IsGreatestLevel (bits number : ℕ) (level : EcLevel) : Type 0 where
  pub holds : level ≢ L → HoldsBits bits number level
  pub greatest : (beyond : EcLevel) → column_of_level level < column_of_level beyond →
      HoldsBits bits number beyond → ⊥

-- The level of a symbol that options ask for: with `strongest` the greatest at which its version
-- holds the bits, otherwise the level asked for.
abbrev pub IsLevelAsked : Bool → EcLevel → ℕ → ℕ → EcLevel → Type 0
IsLevelAsked true asked bits number level = IsGreatestLevel bits number level
IsLevelAsked false asked bits number level = level ≡ asked
