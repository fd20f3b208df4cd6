-- What the crates below promise of a symbol's codewords and modules, in the terms of a `Symbol`.
use Rattle.std.specs.Prelude.{◌≡◌, ℕ, ◌-◌, ◌%◌, List, ◌++◌, length, Bool, Some, IsSomeAnd}
use Rattle.qrcode_base.specs.declared.symbols.BlockLayout.{BlockLayout}
use Rattle.qrcode_base.specs.declared.types.EcLevel.{EcLevel}
use Rattle.qrcode_base.specs.declared.types.Version.{Version}
use Rattle.qrcode_base.specs.Numbers.{byte_bits, zero_bits}
use Rattle.qrcode_base.specs.Symbols.{blocks_of, block_sizes, data_bytes, missing_bits}
use Rattle.qrcode_bits.specs.Frame.{Front, IsFrame}
use Rattle.qrcode_bits.specs.Stream.{Stream}
use Rattle.qrcode_grid.specs.Blocks.{AreCodewords}
use Rattle.qrcode_grid.specs.Codes.{AreBytes}
use Rattle.qrcode_grid.specs.Penalty.{IsFirstLeastMask}
use Rattle.qrcode_grid.specs.Canvas.{CarriesCodewords}
use Rattle.qrcode_core.specs.Symbol.{DrawnSymbol}

-- The data codewords hold a frame of the bytes; zeros follow it where the last codeword has only
-- four bits.
pub record IsEncoded (version : Version) (level : EcLevel) (front : Front)
    (bytes : List ℕ) (payload : ℕ) (codewords : List ℕ) : Type 0 where
  pub frame : List Bool
  pub framed : IsFrame version level front bytes payload frame
  pub frame_is : byte_bits codewords ≡ frame ++ zero_bits (missing_bits version)

-- The interleaved data and correction codewords are those of the data codewords, in sound blocks.
pub record AreStreams (version : Version) (level : EcLevel)
    (codewords interleaved correction : List ℕ) : Type 0 where
  pub blocks : BlockLayout
  pub has_level : blocks_of version level ≡ Some blocks
  pub bytes_interleaved : AreBytes interleaved
  pub bytes_correction : AreBytes correction
  pub sound : AreCodewords blocks.correction (block_sizes blocks) codewords interleaved correction

-- A symbol of the version and level has this number of data codewords.
abbrev pub AreAllCodewords : Version → EcLevel → ℕ → Type 0
AreAllCodewords version level count =
    IsSomeAnd (blocks_of version level) (λ b. count ≡ data_bytes b)

-- The symbol carries the interleaved codewords, under the first mask of least penalty.
pub record IsDrawn (version : Version) (level : EcLevel) (codewords : List ℕ)
    (symbol : DrawnSymbol) : Type 0 where
  pub version_is : symbol.version ≡ version
  pub level_is : symbol.level ≡ level
  pub interleaved : List ℕ
  pub correction : List ℕ
  pub streams : AreStreams version level codewords interleaved correction
  pub carries : CarriesCodewords version level symbol.mask interleaved correction symbol.modules
  pub best : IsFirstLeastMask version level symbol.mask symbol.modules

-- The bytes of some bits: zeros fill up the last byte.
abbrev pub AreBytesOf : List ℕ → List Bool → Type 0
AreBytesOf codewords bits = byte_bits codewords ≡ bits ++ zero_bits ((8 - length bits % 8) % 8)

-- The stream has as many bytes as the symbol of its version has data codewords at the level.
abbrev pub FillsSymbol : Stream → EcLevel → Type 0
FillsSymbol stream level =
    (codewords : List ℕ) → AreBytesOf codewords stream.bits →
    AreAllCodewords stream.version level (length codewords)

-- The symbol is the one of the stream's bytes, in the stream's version and at the level.
pub record IsDrawnStream (stream : Stream) (level : EcLevel) (symbol : DrawnSymbol) : Type 0 where
  pub codewords : List ℕ
  pub turned : AreBytesOf codewords stream.bits
  pub drawn : IsDrawn stream.version level codewords symbol
