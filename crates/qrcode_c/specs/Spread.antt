-- The symbols of a message in a caller's buffers, and the errors of the call that draws them.
use Rattle.std.specs.Prelude.{◌≡◌, ◌⊎◌, ◌+◌, ◌<◌, ◌++◌, ℕ, ℤ, nat_abs, List, length, map, drop, All}
use Rattle.std.specs.List.{flat_map}
use Rattle.std.specs.List.Sorted.{IsNonDecreasing}
use Rattle.qrcode_base.specs.declared.types.EcLevel.{EcLevel}
use Rattle.qrcode_base.specs.Symbols.{IsNormalNumber}
use Rattle.qrcode_grid.specs.Penalty.{byte_of}
use Rattle.qrcode_bits.specs.Frame.{IsTotal}
use Rattle.qrcode_bits.specs.Places.{IsCutPlace}
use Rattle.qrcode_bits.specs.declared.bits.front.Content.{Content}
use Rattle.qrcode_bits.specs.declared.bits.front.Content.TheVariants.{Text}
use Rattle.qrcode_core.specs.Symbol.{DrawnSymbol, TellsReading, modules_of}
use Rattle.qrcode_core.specs.Sequence.{AreBestSymbols, IsSomePartTooLong}
use Rattle.qrcode_c.specs.declared.refusal.Refusal.{Refusal}
use Rattle.qrcode_c.specs.declared.refusal.Refusal.TheVariants.{DataTooLong, OutOfMemory}
use Rattle.qrcode_c.specs.declared.refusal.Refusal.TheVariants.{InvalidLevel, InvalidMaxVersion}
use Rattle.qrcode_c.specs.declared.refusal.Refusal.TheVariants.{InvalidPartCount, InvalidCuts}
use Rattle.qrcode_c.specs.declared.refusal.Refusal.TheVariants.{ShortBuffer}
use Rattle.qrcode_c.specs.declared.shape.Shape.{Shape}
use Rattle.qrcode_c.specs.Levels.{level_argument, AtLevel, IsNoLevel}
use Rattle.qrcode_c.specs.Refusals.{AreCuts}
use Rattle.qrcode_c.specs.Shapes.{shape_of}

-- The bytes of the modules of a symbol.
abbrev pub bytes_of : DrawnSymbol → List ℕ
bytes_of symbol = map byte_of symbol.modules

-- The bytes of some symbols, one symbol after the other.
abbrev pub bytes_of_all : List DrawnSymbol → List ℕ
bytes_of_all symbols = flat_map bytes_of symbols

-- The first bytes of the buffer are the modules of the symbols, one symbol after the other, and the
-- first shapes are theirs; the other bytes and shapes are unchanged.
pub record HoldsAll (symbols : List DrawnSymbol) (before after : List ℕ)
    (shapes_before shapes : List Shape) : Type 0 where
  pub modules : after ≡ bytes_of_all symbols ++ drop (length (bytes_of_all symbols)) before
  pub shapes_are : shapes ≡ map shape_of symbols ++ drop (length symbols) shapes_before

-- The symbols are those that carry the message together.
pub record AreSpread (content : Content) (message cuts : List ℕ) (number limit : ℤ)
    (symbols : List DrawnSymbol) : Type 0 where
  pub level : EcLevel
  pub level_is : number ≡ level_argument level
  pub are_best : AreBestSymbols content message cuts level (nat_abs limit) (map modules_of symbols)
  pub readings : All TellsReading symbols

-- The buffers have no room for all symbols.
abbrev pub IsNoRoom : ℕ → ℕ → List DrawnSymbol → Type 0
IsNoRoom room places symbols =
    (places < length symbols) ⊎ (room < length (bytes_of_all symbols))

-- The cuts are valid for a message of the content: a text is cut between two characters.
abbrev pub AreCutsOf : Content → List ℕ → List ℕ → Type 0
AreCutsOf Text message cuts = IsNonDecreasing cuts × All (λ cut. IsCutPlace Text message cut) cuts
AreCutsOf content message cuts = AreCuts cuts (length message)

-- The arguments are valid: the cuts are, and the greatest version is 1 to 40.
abbrev pub AreValid : Content → List ℕ → List ℕ → ℤ → Type 0
AreValid content message cuts limit = AreCutsOf content message cuts × IsNormalNumber limit

-- The errors of the call for all symbols of a message, and when each is returned, in the order of
-- the lines.
abbrev pub IsSpreadStatus : Content → List ℕ → List ℕ → ℤ → ℤ → ℕ → ℕ → Refusal → Type 0
IsSpreadStatus content message cuts number limit room places InvalidLevel = IsNoLevel number
IsSpreadStatus content message cuts number limit room places InvalidCuts =
    AtLevel number (λ level. AreCutsOf content message cuts → ⊥)
IsSpreadStatus content message cuts number limit room places InvalidMaxVersion =
    AtLevel number (λ level. AreCutsOf content message cuts × (IsNormalNumber limit → ⊥))
IsSpreadStatus content message cuts number limit room places InvalidPartCount =
    AtLevel number (λ level. AreValid content message cuts limit × (IsTotal (length cuts + 1) → ⊥))
IsSpreadStatus content message cuts number limit room places DataTooLong =
    AtLevel number (λ level. AreValid content message cuts limit × IsTotal (length cuts + 1)
    × IsSomePartTooLong content message cuts level (nat_abs limit))
IsSpreadStatus content message cuts number limit room places OutOfMemory =
    AtLevel number (λ level. AreValid content message cuts limit × IsTotal (length cuts + 1))
IsSpreadStatus content message cuts number limit room places ShortBuffer =
    (symbols : List DrawnSymbol) × AreSpread content message cuts number limit symbols
    × IsNoRoom room places symbols
IsSpreadStatus content message cuts number limit room places other = ⊥
