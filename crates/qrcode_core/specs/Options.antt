-- What a caller asks of a symbol beside its data, and the symbol that is returned.
use Rattle.std.specs.Prelude.{◌≡◌, ℕ, ◌-◌, ◌<◌, ◌≤◌, nat_abs, Bool, true, false, List, length}
use Rattle.qrcode_base.specs.Symbols.{column_of_level}
use Rattle.qrcode_base.specs.declared.types.Color.{Color}
use Rattle.qrcode_base.specs.declared.types.EcLevel.{EcLevel}
use Rattle.qrcode_base.specs.declared.types.errors.QrError.{QrError}
use Rattle.qrcode_base.specs.declared.types.errors.QrError.TheVariants.{InvalidCharacter, InvalidResourceLimits}
use Rattle.qrcode_bits.specs.Contents.{AreElements, IsFirstNoElement, parsed_bytes}
use Rattle.qrcode_bits.specs.Frame.{Front, front_bits}
use Rattle.qrcode_bits.specs.Plans.{normal_from, FitsNone}
use Rattle.qrcode_bits.specs.Push.{IsVersionRange, IsRangeRefused}
use Rattle.qrcode_core.specs.Symbol.{DrawnSymbol, TellsReading}
use Rattle.qrcode_core.specs.Headline.{IsBest}
use Rattle.qrcode_core.specs.declared.options.SymbolOptions.{SymbolOptions}

-- The best symbol of some data at a level, after a front, in the smallest version from a least one
-- up to a greatest one.
pub record IsBestInRange (front : Front) (bytes : List ℕ) (level : EcLevel) (least limit : ℕ)
    (grid : List Color) : Type 0 where
  pub best : IsBest (normal_from least) front bytes level grid
  pub up_to : best.number ≤ limit - least

-- The symbol of the greatest level that costs no module. At the level asked for or a greater one it
-- is the best symbol, and as large as the best symbol at the level asked for (`usual`). At every
-- greater level each best symbol is larger.
pub record IsStrongest (front : Front) (bytes : List ℕ) (asked : EcLevel) (least limit : ℕ)
    (grid : List Color) : Type 0 where
  pub level : EcLevel
  pub usual : List Color
  pub at_least : column_of_level asked ≤ column_of_level level
  pub best : IsBestInRange front bytes level least limit grid
  pub best_usual : IsBestInRange front bytes asked least limit usual
  pub same_size : length grid ≡ length usual
  pub greatest : (beyond : EcLevel) → column_of_level level < column_of_level beyond →
      (other : List Color) → IsBest (normal_from least) front bytes beyond other →
      length grid < length other

-- No level above one, up to another, at which the data fit the versions up to a number.
abbrev pub NoneStronger : Front → List ℕ → EcLevel → EcLevel → ℕ → ℕ → Type 0
NoneStronger front bytes asked most least number =
    (beyond : EcLevel) → column_of_level asked < column_of_level beyond →
    column_of_level beyond ≤ column_of_level most →
    FitsNone (normal_from least) (length (front_bits front)) (parsed_bytes front.content bytes) beyond
    (number - least)

-- The best symbol at the greatest level above one, up to another, at which the data fit the
-- versions up to a number.
pub record IsStronger (front : Front) (bytes : List ℕ) (asked most : EcLevel) (least number : ℕ)
    (symbol : DrawnSymbol) : Type 0 where
  pub level : EcLevel
  pub above : column_of_level asked < column_of_level level
  pub best : IsBestInRange front bytes level least number symbol.modules
  pub reading : TellsReading symbol
  pub others : NoneStronger front bytes level most least number

-- The strongest symbol, or the best one at the level asked for.
abbrev pub IsStrongestOrBest : Bool → Front → List ℕ → EcLevel → ℕ → ℕ → List Color → Type 0
IsStrongestOrBest true front bytes level least limit grid =
    IsStrongest front bytes level least limit grid
IsStrongestOrBest false front bytes level least limit grid =
    IsBestInRange front bytes level least limit grid

-- The symbol that the options ask for: the best one at their level in the smallest version from
-- their least to their greatest; or, if it is to be the strongest, at the greatest level at which
-- it is no larger.
abbrev pub IsAsAsked : SymbolOptions → Front → List ℕ → List Color → Type 0
IsAsAsked options front bytes grid =
    IsStrongestOrBest options.strongest front bytes options.level (nat_abs options.min_version)
    (nat_abs options.max_version) grid

-- The versions of the options are a range within 1 to 40.
abbrev pub HasVersions : SymbolOptions → Type 0
HasVersions options = IsVersionRange options.min_version options.max_version

-- The errors of a call with options, and when each is returned. The versions are checked first.
abbrev pub IsOptionsRefusal : SymbolOptions → Front → List ℕ → QrError → Type 0
IsOptionsRefusal options front bytes error =
    IsRangeRefused front bytes options.level options.min_version options.max_version error

-- The same for elements: after the versions, the bytes are checked to be elements.
abbrev pub IsElementsOptionsRefusal : SymbolOptions → Front → List ℕ → QrError → Type 0
IsElementsOptionsRefusal options front elements InvalidResourceLimits = HasVersions options → ⊥
IsElementsOptionsRefusal options front elements (InvalidCharacter place byte) =
    HasVersions options × IsFirstNoElement elements place byte
IsElementsOptionsRefusal options front elements error =
    AreElements elements × IsOptionsRefusal options front elements error
