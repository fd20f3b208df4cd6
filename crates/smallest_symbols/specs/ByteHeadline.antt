-- The best symbol of bytes at a level without the Kanji mode, and when there is none (ISO/IEC
-- 18004:2006, encode procedure). The promise is `IsBestWithoutKanji`, near the end of the file.
use Rattle.std.specs.Prelude.{◌≡◌, ℕ, ◌-◌, ◌<◌, ◌≤◌, nat_abs, Bool, true, false, List, ◌++◌}
use Rattle.std.specs.Prelude.{length, Some}
use Rattle.qrcode_base.specs.Symbols.{capacity, column_of_level}
use Rattle.qrcode_base.specs.declared.symbols.TheConstants.{LONGEST_DATA}
use Rattle.qrcode_base.specs.declared.types.Color.{Color}
use Rattle.qrcode_base.specs.declared.types.EcLevel.{EcLevel}
use Rattle.qrcode_base.specs.declared.types.Version.{Version}
use Rattle.qrcode_base.specs.declared.types.errors.QrError.{QrError}
use Rattle.qrcode_base.specs.declared.types.errors.QrError.TheVariants.{DataTooLong, OutOfMemory}
use Rattle.qrcode_base.specs.declared.types.errors.QrError.TheVariants.{InvalidResourceLimits}
use Rattle.qrcode_bits.specs.Frame.{no_front, spellings, tail}
use Rattle.qrcode_bits.specs.Plans.{normal_from}
use Rattle.qrcode_bits.specs.Spelling.{Piece}
use Rattle.qrcode_core.specs.Headline.{HasBlocksApart, IsFarFromOthers, Reading, Reads, reading_of}
use Rattle.qrcode_core.specs.Options.{HasVersions}
use Rattle.qrcode_core.specs.Symbol.{DrawnSymbol, IsSymbolOfBits}
use Rattle.qrcode_core.specs.declared.options.SymbolOptions.{SymbolOptions}
use Rattle.qrcode_grid.specs.Masks.{HasFunctionalColors}
use Rattle.qrcode_grid.specs.Penalty.{IsFirstLeastMask}
use Rattle.qrcode_grid.specs.declared.canvas.MaskPattern.{MaskPattern}
use Rattle.smallest_symbols.specs.BytePieces.{HaveNoKanji, NoPiecesFit, NoPiecesFitUpTo}
use Rattle.smallest_symbols.specs.BytePieces.{bits_of_pieces}
use Rattle.smallest_symbols.specs.ByteChoices.{AreFewestBits}

-- ---- No better symbol

-- A reader finds this in a grid, in segments of which none is in the Kanji mode.
pub record ReadsWithoutKanji (grid : List Color) (reading : Reading) : Type 0 where
  pub reads : Reads grid reading
  pub no_kanji : HaveNoKanji reads.framed.pieces

-- However the grid is read, no segment of it is in the Kanji mode.
abbrev pub HasNoKanji : List Color → Type 0
HasNoKanji grid =
    (reading : Reading) (reads : Reads grid reading) → HaveNoKanji reads.framed.pieces

-- Every grid that is read as the bytes at the level, without the Kanji mode, has the same or a
-- greater version number of this kind, and in the same version at least as many payload bits. The
-- bytes of that grid may be cut into segments anywhere.
abbrev pub NoneIsBetterWithoutKanji : (ℕ → Version) → List ℕ → EcLevel → ℕ → ℕ → Type 0
NoneIsBetterWithoutKanji kind bytes level number payload =
    (grid : List Color) (other bits : ℕ) (mask : MaskPattern) →
    ReadsWithoutKanji grid (reading_of (kind other) level mask no_front bytes bits) →
    (number ≤ other) × (other ≡ number → payload ≤ bits)

-- No grid of a version of a kind, up to a number, is read as the bytes at the level without the
-- Kanji mode.
abbrev pub NoneIsReadWithoutKanji : (ℕ → Version) → List ℕ → EcLevel → ℕ → Type 0
NoneIsReadWithoutKanji kind bytes level limit =
    (grid : List Color) (number payload : ℕ) (mask : MaskPattern) → number ≤ limit →
    ReadsWithoutKanji grid (reading_of (kind number) level mask no_front bytes payload) → ⊥

-- ---- The symbol of pieces

-- The symbol of the bits of some pieces, which terminator and padding follow.
pub record HoldsPieces (pieces : List Piece) (version : Version) (level : EcLevel)
    (symbol : DrawnSymbol) : Type 0 where
  pub limit : ℕ
  pub limit_is : capacity version level ≡ Some limit
  pub holds : IsSymbolOfBits
      (spellings version pieces ++ tail version limit (bits_of_pieces version pieces)) version level
      symbol

-- ---- The best symbol

-- The best symbol of bytes at a level without the Kanji mode, among the versions of one kind, which
-- gives the version of each number.
--
-- A reader finds the bytes at the level in it (`reads`), and nothing else: no other bytes, version,
-- level, mask, front or number of payload bits (`only`), and no segment in the Kanji mode
-- (`no_kanji`). Its functional modules have their colours (`functional`). The payload bits are the
-- fewest of all ways to cut the bytes into pieces and to choose a mode but Kanji for each
-- (`fewest`), and none of these ways fits a smaller version (`smallest`). So no grid that is read
-- as the bytes at the level without the Kanji mode is better (`none_better`). The mask is the first
-- under which the grid has the least penalty (`best_mask`). Each block differs from every other
-- sound block of its length in more codewords than it has correction codewords (`apart`), and every
-- grid of the same version and level that is read as other bytes differs from this one by as much
-- in some block (`far`).
pub record IsBestWithoutKanji (kind : ℕ → Version) (bytes : List ℕ) (level : EcLevel)
    (grid : List Color) : Type 0 where
  pub number : ℕ
  pub mask : MaskPattern
  pub payload : ℕ
  pub reading : Reading
  pub says : reading ≡ reading_of (kind number) level mask no_front bytes payload
  pub reads : Reads grid reading
  pub only : (other : Reading) → Reads grid other → other ≡ reading
  pub no_kanji : HasNoKanji grid
  pub functional : HasFunctionalColors (kind number) level mask grid
  pub fewest : AreFewestBits (kind number) bytes payload
  pub smallest : (smaller : ℕ) → smaller < number → NoPiecesFit (kind smaller) level bytes
  pub none_better : NoneIsBetterWithoutKanji kind bytes level number payload
  pub best_mask : IsFirstLeastMask (kind number) level mask grid
  pub apart : HasBlocksApart reads.carries
  pub far : IsFarFromOthers grid reading reads

-- The best symbol of bytes at a level without the Kanji mode, in the versions from a least one up
-- to a greatest one.
pub record IsBestInRangeWithoutKanji (bytes : List ℕ) (level : EcLevel) (least limit : ℕ)
    (grid : List Color) : Type 0 where
  pub best : IsBestWithoutKanji (normal_from least) bytes level grid
  pub up_to : best.number ≤ limit - least

-- The symbol of the greatest level that costs no module. At the level asked for or a greater one it
-- is the best symbol without the Kanji mode. No grid that is read as the bytes at the level asked
-- for, without that mode, has a smaller version (`as_small`). At every greater level each has a
-- greater version (`greatest`).
pub record IsStrongestWithoutKanji (bytes : List ℕ) (asked : EcLevel) (least limit : ℕ)
    (grid : List Color) : Type 0 where
  pub level : EcLevel
  pub at_least : column_of_level asked ≤ column_of_level level
  pub found : IsBestInRangeWithoutKanji bytes level least limit grid
  pub as_small : (other : List Color) (number payload : ℕ) (mask : MaskPattern) →
      ReadsWithoutKanji other
      (reading_of (normal_from least number) asked mask no_front bytes payload) →
      found.best.number ≤ number
  pub greatest : (beyond : EcLevel) → column_of_level level < column_of_level beyond →
      NoneIsReadWithoutKanji (normal_from least) bytes beyond found.best.number

-- The strongest symbol, or the best one at the level asked for.
abbrev pub IsStrongestOrBestWithoutKanji : Bool → List ℕ → EcLevel → ℕ → ℕ → List Color → Type 0
IsStrongestOrBestWithoutKanji true bytes level least limit grid =
    IsStrongestWithoutKanji bytes level least limit grid
IsStrongestOrBestWithoutKanji false bytes level least limit grid =
    IsBestInRangeWithoutKanji bytes level least limit grid

-- The symbol of bytes without the Kanji mode that the options ask for: the best one at their level
-- in their versions; or, if it is to be the strongest, at the greatest level at which it is no
-- larger.
abbrev pub IsAsAskedWithoutKanji : SymbolOptions → List ℕ → List Color → Type 0
IsAsAskedWithoutKanji options bytes grid =
    IsStrongestOrBestWithoutKanji options.strongest bytes options.level
    (nat_abs options.min_version) (nat_abs options.max_version) grid

-- ---- Errors

-- The errors of `bytes_without_kanji`, and when each is returned. The versions are checked first.
-- For more than 7089 bytes it needs no memory.
abbrev pub IsRefusedWithoutKanji : SymbolOptions → List ℕ → QrError → Type 0
IsRefusedWithoutKanji options bytes InvalidResourceLimits = HasVersions options → ⊥
IsRefusedWithoutKanji options bytes DataTooLong =
    HasVersions options
    × NoPiecesFitUpTo (normal_from (nat_abs options.min_version)) options.level bytes
    (nat_abs options.max_version - nat_abs options.min_version)
IsRefusedWithoutKanji options bytes OutOfMemory =
    HasVersions options × (length bytes ≤ LONGEST_DATA)
IsRefusedWithoutKanji options bytes other = ⊥
