-- A symbol in a buffer, and its shape.
use Rattle.std.specs.Prelude.{◌≡◌, ◌*◌, ◌++◌, ℕ, ℤ, List, length, map, drop}
use Rattle.qrcode_base.specs.declared.types.Color.{Color}
use Rattle.qrcode_base.specs.declared.types.EcLevel.{EcLevel}
use Rattle.qrcode_grid.specs.Penalty.{byte_of}
use Rattle.qrcode_base.specs.Symbols.{width_of}
use Rattle.qrcode_core.specs.Symbol.{DrawnSymbol, TellsReading}
use Rattle.qrcode_bits.specs.Frame.{Front}
use Rattle.qrcode_core.specs.Options.{IsAsAsked}
use Rattle.qrcode_core.specs.declared.options.SymbolOptions.{SymbolOptions}
use Rattle.qrcode_c.specs.declared.options.Options.{Options}
use Rattle.qrcode_c.specs.declared.shape.Shape.{Shape}
use Rattle.qrcode_c.specs.Asking.{AsksFor}
use Rattle.qrcode_c.specs.Levels.{level_argument}
use Rattle.qrcode_c.specs.Refusals.{IsPartSymbol}
use Rattle.qrcode_c.specs.Shapes.{shape_of}

-- The first bytes of the buffer are the modules of the symbol, as many as the square of its width;
-- the other bytes are unchanged. The shape is that of the symbol.
pub record Holds (symbol : DrawnSymbol) (before after : List ℕ) (shape : Shape) : Type 0 where
  pub modules : after ≡ map byte_of symbol.modules ++ drop (length symbol.modules) before
  pub square : length symbol.modules ≡ width_of symbol.version * width_of symbol.version
  pub shape_is : shape ≡ shape_of symbol

-- The buffer and the shape hold the best symbol at the level of the number, and the shape is what a
-- reader finds in it.
pub record HoldsBest (best : EcLevel → List Color → Type 0) (number : ℤ)
    (before after : List ℕ) (shape : Shape) : Type 0 where
  pub level : EcLevel
  pub level_is : number ≡ level_argument level
  pub symbol : DrawnSymbol
  pub is_best : best level symbol.modules
  pub reading : TellsReading symbol
  pub holds : Holds symbol before after shape

-- The symbol is the one that the options ask for of some data after a front, the shape is what a
-- reader finds in it, and the buffer and the shape hold it.
pub record IsDrawnAs (front : Front) (bytes before after : List ℕ) (shape : Shape)
    (options : SymbolOptions) : Type 0 where
  pub symbol : DrawnSymbol
  pub is_asked : IsAsAsked options front bytes symbol.modules
  pub reading : TellsReading symbol
  pub holds : Holds symbol before after shape

-- The buffer and the shape hold the symbol that the options of the caller ask for.
abbrev pub HoldsAsked : Front → List ℕ → Options → List ℕ → List ℕ → Shape → Type 0
HoldsAsked front bytes asked before after shape =
    AsksFor asked (IsDrawnAs front bytes before after shape)

-- The buffer and the shape hold the symbol at an index of those that carry a message together.
pub record HoldsPart (message cuts : List ℕ) (number limit : ℤ) (index : ℕ)
    (before after : List ℕ) (shape : Shape) : Type 0 where
  pub level : EcLevel
  pub level_is : number ≡ level_argument level
  pub symbol : DrawnSymbol
  pub is_symbol : IsPartSymbol message cuts level limit index symbol
  pub reading : TellsReading symbol
  pub holds : Holds symbol before after shape
