-- The version that a text takes: the smallest in which some parts of it fit, and its least parts
-- there (ISO/IEC 18004:2006, "Data analysis" of the encode procedure).
use Rattle.std.specs.Prelude.{ℕ, pos, ◌<◌, ◌≤◌, List}
use Rattle.qrcode_base.specs.Symbols.{IsMicroNumber}
use Rattle.qrcode_base.specs.declared.types.EcLevel.{EcLevel}
use Rattle.qrcode_base.specs.declared.types.Version.{Version}
use Rattle.qrcode_base.specs.declared.types.errors.QrError.{QrError}
use Rattle.qrcode_base.specs.declared.types.errors.QrError.TheVariants.{DataTooLong, OutOfMemory}
use Rattle.qrcode_bits.specs.Plans.{normal, micro}
use Rattle.character_sets.specs.Reading.{Part}
use Rattle.text_plans.specs.Costs.{AreLeast}
use Rattle.smallest_symbols.specs.TextFrames.{NoPartsFit, NoVersionFits, PartsFit}

-- No parts that are read as the text fit a version from one number on and before another.
abbrev pub NoneFitBefore : ℕ → List ℕ → EcLevel → ℕ → Type 0
NoneFitBefore least text level end =
    (number : ℕ) → least ≤ number → number < end → NoPartsFit (normal number) level text

-- The smallest Normal version from a least one up to a greatest one in which some parts fit, and
-- the parts that take the fewest bits there.
pub record IsTextChoice (least : ℕ) (text : List ℕ) (level : EcLevel) (limit number : ℕ)
    (parts : List Part) : Type 0 where
  pub from : least ≤ number
  pub up_to : number ≤ limit
  pub are_least : AreLeast (normal number) text parts
  pub fits : PartsFit (normal number) level text parts
  pub smallest : NoneFitBefore least text level number

-- The parts that take the fewest bits in a version, which they fit.
pub record IsFittingChoice (version : Version) (text : List ℕ) (level : EcLevel)
    (parts : List Part) : Type 0 where
  pub are_least : AreLeast version text parts
  pub fits : PartsFit version level text parts

-- The smallest Micro version in which some parts fit, and the parts that take the fewest
-- bits there.
pub record IsMicroChoice (text : List ℕ) (level : EcLevel) (number : ℕ) (parts : List Part)
    : Type 0 where
  pub version : IsMicroNumber (pos number)
  pub chosen : IsFittingChoice (micro number) text level parts
  pub smallest : (smaller : ℕ) → smaller < number → NoPartsFit (micro smaller) level text

-- Why a text has no choice in the versions of a kind up to a number: no parts that are read as it
-- fit any of them, or an allocation failed.
abbrev pub HasNoChoice : (ℕ → Version) → EcLevel → List ℕ → ℕ → QrError → Type 0
HasNoChoice kind level text limit DataTooLong = NoVersionFits kind level text limit
HasNoChoice kind level text limit OutOfMemory = Unit {0}
HasNoChoice kind level text limit other = ⊥
