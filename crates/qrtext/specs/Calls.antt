-- The symbol that `qrtext` draws, and the error if there is none.
use Rattle.std.specs.Prelude.{ℕ, Bool, true, false, List}
use Rattle.qrcode_base.specs.declared.types.errors.QrError.{QrError}
use Rattle.qrcode_base.specs.declared.types.Color.{Color}
use Rattle.qrcode_base.specs.declared.types.EcLevel.{EcLevel}
use Rattle.qrcode_core.specs.Headline.{IsBestSymbol, IsBestMicroSymbol, IsRefusal}
use Rattle.qrcode_core.specs.Push.{IsMicroRefused}

-- The modules are the best symbol, or with `true` the best Micro symbol, of the bytes.
abbrev pub IsSymbolOf : Bool → EcLevel → List ℕ → List Color → Type 0
IsSymbolOf false level bytes = IsBestSymbol bytes level
IsSymbolOf true level bytes = IsBestMicroSymbol bytes level

-- The call for that symbol fails with this error.
abbrev pub IsRefusalOf : Bool → EcLevel → List ℕ → QrError → Type 0
IsRefusalOf false level bytes = IsRefusal bytes level
IsRefusalOf true level bytes = IsMicroRefused bytes level
