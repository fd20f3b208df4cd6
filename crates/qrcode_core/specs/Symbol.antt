-- A `Symbol` as contracts see it, and the symbol of bits that a caller pushed.
use Rattle.std.specs.Prelude.{◌≡◌, List, ℕ, ◌<◌, ◌≤◌, Bool, ◌++◌, length, Some, None}
use Rattle.qrcode_base.specs.declared.types.Color.{Color}
use Rattle.qrcode_base.specs.declared.types.EcLevel.{EcLevel}
use Rattle.qrcode_base.specs.declared.types.Version.{Version}
use Rattle.qrcode_base.specs.Symbols.{width_of, capacity}
use Rattle.qrcode_grid.specs.declared.canvas.MaskPattern.{MaskPattern}
use Rattle.qrcode_core.specs.Grids.{Grid, grid_of}
use Rattle.qrcode_core.specs.Headline.{Reading, Reads, Carries, HasBlocksApart}
use Rattle.qrcode_base.specs.declared.types.errors.QrError.{QrError}
use Rattle.qrcode_base.specs.declared.types.errors.QrError.TheVariants.{DataTooLong, InvalidVersion}
use Rattle.qrcode_base.specs.declared.types.errors.QrError.TheVariants.{OutOfMemory}
use Rattle.qrcode_bits.specs.Frame.{tail}
use Rattle.qrcode_bits.specs.Stream.{Stream}
use Rattle.qrcode_grid.specs.Penalty.{IsFirstLeastMask}

-- A symbol: its modules, row after row from the upper left corner, and its version, level and mask.
pub record DrawnSymbol : Type 0 where
  pub modules : List Color
  pub version : Version
  pub level : EcLevel
  pub mask : MaskPattern

-- The modules of a symbol.
abbrev pub modules_of : DrawnSymbol → List Color
modules_of symbol = symbol.modules

-- The square grid of a symbol, as wide as its version.
abbrev pub drawn_grid : DrawnSymbol → Grid
drawn_grid symbol = grid_of symbol.modules (width_of symbol.version) (width_of symbol.version)

-- The version of a symbol.
abbrev pub drawn_version : DrawnSymbol → Version
drawn_version symbol = symbol.version

-- The level of a symbol.
abbrev pub drawn_level : DrawnSymbol → EcLevel
drawn_level symbol = symbol.level

-- The version, the level and the mask are those that a reader finds in the modules.
abbrev pub TellsReading : DrawnSymbol → Type 0
TellsReading symbol =
    (reading : Reading) → Reads symbol.modules reading →
    (symbol.version ≡ reading.version) × (symbol.level ≡ reading.level)
    × (symbol.mask ≡ reading.mask)

-- ---- The symbol of bits that a caller pushed.

-- The symbol of some data bits, in a version and at a level. Its modules carry the bits (`carries`)
-- and nothing else (`only`). Its mask is the first under which the grid has the least penalty
-- (`best_mask`). Each block differs from every other sound block of its length in more codewords
-- than it has correction codewords (`apart`).
pub record IsSymbolOfBits (bits : List Bool) (version : Version) (level : EcLevel)
    (symbol : DrawnSymbol) : Type 0 where
  pub version_is : symbol.version ≡ version
  pub level_is : symbol.level ≡ level
  pub carries : Carries symbol.modules version level symbol.mask bits
  pub only : (v : Version) (l : EcLevel) (m : MaskPattern) (other : List Bool) →
      Carries symbol.modules v l m other →
      (v ≡ version) × (l ≡ level) × (m ≡ symbol.mask) × (other ≡ bits)
  pub best_mask : IsFirstLeastMask version level symbol.mask symbol.modules
  pub apart : HasBlocksApart carries

-- The symbol of the bits of a stream, in the version of the stream: the bits fit the capacity of
-- the level, and terminator and padding follow them.
pub record HoldsStream (stream : Stream) (level : EcLevel) (symbol : DrawnSymbol) : Type 0 where
  pub limit : ℕ
  pub limit_is : capacity stream.version level ≡ Some limit
  pub fits : length stream.bits ≤ limit
  pub holds : IsSymbolOfBits (stream.bits ++ tail stream.version limit (length stream.bits))
      stream.version level symbol

-- The errors of `Symbol::with_bits`, and when each is returned. `OutOfMemory` says only that no
-- other error was due.
abbrev pub IsStreamRefusal : Stream → EcLevel → QrError → Type 0
IsStreamRefusal stream level (InvalidVersion version named) =
    (version ≡ stream.version) × (named ≡ level) × (capacity stream.version level ≡ None)
IsStreamRefusal stream level DataTooLong =
    (limit : ℕ) × (capacity stream.version level ≡ Some limit) × (limit < length stream.bits)
IsStreamRefusal stream level OutOfMemory =
    (limit : ℕ) × (capacity stream.version level ≡ Some limit) × (length stream.bits ≤ limit)
IsStreamRefusal stream level other = ⊥
