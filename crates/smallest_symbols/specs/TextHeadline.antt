-- The smallest symbol of a text at a level, in whichever way the text is written, and what a reader
-- finds in it (ISO/IEC 18004:2006, encode procedure and reference decode algorithm). The promise is
-- `IsSmallestText`, near the end of the file.
use Rattle.std.specs.Prelude.{◌≡◌, ◌≢◌, ℕ, ◌-◌, ◌<◌, ◌≤◌, nat_abs, pos, Bool, true, false, List}
use Rattle.std.specs.Prelude.{◌++◌, length, Option, None, Some}
use Rattle.qrcode_base.specs.Symbols.{block_sizes, capacity, column_of_level}
use Rattle.qrcode_base.specs.declared.symbols.TheConstants.{LONGEST_DATA}
use Rattle.qrcode_base.specs.declared.types.Color.{Color}
use Rattle.qrcode_base.specs.declared.types.EcLevel.{EcLevel}
use Rattle.qrcode_base.specs.declared.types.EcLevel.TheVariants.{H}
use Rattle.qrcode_base.specs.declared.types.Version.{Version}
use Rattle.qrcode_base.specs.declared.types.Version.TheVariants.{Micro}
use Rattle.qrcode_base.specs.declared.types.errors.QrError.{QrError}
use Rattle.qrcode_base.specs.declared.types.errors.QrError.TheVariants.{DataTooLong, OutOfMemory}
use Rattle.qrcode_base.specs.declared.types.errors.QrError.TheVariants.{InvalidResourceLimits}
use Rattle.qrcode_base.specs.declared.types.errors.QrError.TheVariants.{InvalidVersion}
use Rattle.qrcode_bits.specs.Plans.{micro, normal_from}
use Rattle.qrcode_bits.specs.Frame.{Header, tail}
use Rattle.qrcode_core.specs.Symbol.{DrawnSymbol, IsSymbolOfBits}
use Rattle.qrcode_core.specs.Headline.{Carries, HasBlocksApart}
use Rattle.qrcode_core.specs.Options.{HasVersions}
use Rattle.qrcode_core.specs.declared.options.SymbolOptions.{SymbolOptions}
use Rattle.qrcode_grid.specs.Blocks.{codeword_block}
use Rattle.qrcode_grid.specs.Codes.{distance}
use Rattle.qrcode_grid.specs.Masks.{HasFunctionalColors}
use Rattle.qrcode_grid.specs.Penalty.{IsFirstLeastMask}
use Rattle.qrcode_grid.specs.declared.canvas.MaskPattern.{MaskPattern}
use Rattle.character_sets.specs.Reading.{Part}
use Rattle.text_plans.specs.Costs.{AreLeast}
use Rattle.smallest_symbols.specs.declared.micro_texts.MicroTextError.{MicroTextError}
use Rattle.smallest_symbols.specs.declared.micro_texts.MicroTextError.TheVariants.{Unwritable}
use Rattle.smallest_symbols.specs.declared.micro_texts.MicroTextError.TheVariants.{Symbol}
use Rattle.smallest_symbols.specs.MicroTexts.{HasMicroParts}
use Rattle.smallest_symbols.specs.TextFrames.{IsTextFrame, NoPartsFit, NoVersionFits, headed_bits}

-- ---- What a grid says

-- What a reader of texts finds in a grid: the header, if it is one of a sequence; the text as its
-- characters in Unicode; the version, level and mask of the symbol; and the payload, which is the
-- number of bits before the terminator.
pub record TextReading : Type 0 where
  pub header : Option Header
  pub text : List ℕ
  pub version : Version
  pub level : EcLevel
  pub mask : MaskPattern
  pub payload : ℕ

-- The reading with these parts.
abbrev pub text_reading_of :
    Version → EcLevel → MaskPattern → Option Header → List ℕ → ℕ → TextReading
text_reading_of version level mask header text payload = record {
  header = header;
  text = text;
  version = version;
  level = level;
  mask = mask;
  payload = payload;
}

-- A reader of texts finds this in a grid: the grid carries a text frame of the text, after the
-- header if there is one, in the version, at the level and under the mask.
pub record ReadsText (grid : List Color) (reading : TextReading) : Type 0 where
  pub frame : List Bool
  pub carries : Carries grid reading.version reading.level reading.mask frame
  pub framed : IsTextFrame reading.version reading.level reading.header reading.text
      reading.payload frame

-- No grid is read as a text in two ways, nor as one after a header and as one without.
abbrev pub HaveOneTextReading : Type 0
HaveOneTextReading =
    (grid : List Color) (first second : TextReading) →
    ReadsText grid first → ReadsText grid second → first ≡ second

-- The version, the level and the mask of a symbol are those that a reader finds in its modules.
abbrev pub TellsTextReading : DrawnSymbol → Type 0
TellsTextReading symbol =
    (reading : TextReading) → ReadsText symbol.modules reading →
    (symbol.version ≡ reading.version) × (symbol.level ≡ reading.level)
    × (symbol.mask ≡ reading.mask)

-- Every other grid that is read as another text, or after another header or none, at the same
-- version and level, differs from this grid: in some block they differ in more codewords than the
-- block has correction codewords.
abbrev pub IsFarFromOtherTexts :
    (grid : List Color) (reading : TextReading) → ReadsText grid reading → Type 0
IsFarFromOtherTexts grid r f =
    (other : List Color) (s : TextReading) (g : ReadsText other s) →
    s.version ≡ r.version → s.level ≡ r.level → (s.header ≡ r.header → s.text ≡ r.text → ⊥) →
    let n = f.carries.blocks.correction in
    let sizes = block_sizes f.carries.blocks in
    (block : ℕ) × (block < length sizes) ×
    (n < distance (codeword_block n sizes f.carries.interleaved f.carries.correction block)
    (codeword_block n sizes g.carries.interleaved g.carries.correction block))

-- ---- No smaller symbol

-- Every grid that is read as the text at the level, without a header, has the same or a greater
-- version number of this kind, and in the same version at least as many payload bits.
abbrev pub NoTextIsSmaller : (ℕ → Version) → List ℕ → EcLevel → ℕ → ℕ → Type 0
NoTextIsSmaller kind text level number payload =
    (grid : List Color) (other bits : ℕ) (mask : MaskPattern) →
    ReadsText grid (text_reading_of (kind other) level mask None text bits) →
    (number ≤ other) × (other ≡ number → payload ≤ bits)

-- No grid of a version of a kind, up to a number, is read as the text at the level, without a
-- header.
abbrev pub NoGridReadsText : (ℕ → Version) → List ℕ → EcLevel → ℕ → Type 0
NoGridReadsText kind text level limit =
    (grid : List Color) (number payload : ℕ) (mask : MaskPattern) → number ≤ limit →
    ReadsText grid (text_reading_of (kind number) level mask None text payload) → ⊥

-- ---- The symbol of parts

-- The symbol of the bits of a header, if there is one, and of some parts, which terminator and
-- padding follow.
pub record HoldsParts (header : Option Header) (parts : List Part) (version : Version)
    (level : EcLevel) (symbol : DrawnSymbol) : Type 0 where
  pub limit : ℕ
  pub limit_is : capacity version level ≡ Some limit
  pub holds : IsSymbolOfBits
      (headed_bits version header parts
      ++ tail version limit (length (headed_bits version header parts))) version level symbol

-- ---- The smallest symbol

-- The smallest symbol of a text at a level, among the versions of one kind, which gives the version
-- of each number.
--
-- A reader of texts finds the text at the level in it (`reads`), and nothing else: no header, and
-- no other text, version, level, mask or number of payload bits (`only`). Its functional modules
-- have their colours (`functional`). Of all parts that are read as the text its own take the fewest
-- bits in its version, and of those they are the fewest (`least`); none fit a smaller version
-- (`smallest`). So no grid that is read as the text at the level, without a header, is smaller
-- (`none_smaller`). The mask is the first under which the grid has the least penalty (`best_mask`).
-- Each block differs from every other sound block of its length in more codewords than it has
-- correction codewords (`apart`), and every grid of the same version and level that is read as
-- another text, or after a header, differs from this one by as much in some block (`far`).
pub record IsSmallestText (kind : ℕ → Version) (text : List ℕ) (level : EcLevel)
    (grid : List Color) : Type 0 where
  pub number : ℕ
  pub mask : MaskPattern
  pub payload : ℕ
  pub reading : TextReading
  pub says : reading ≡ text_reading_of (kind number) level mask None text payload
  pub reads : ReadsText grid reading
  pub only : (other : TextReading) → ReadsText grid other → other ≡ reading
  pub functional : HasFunctionalColors (kind number) level mask grid
  pub least : AreLeast (kind number) text reads.framed.parts
  pub smallest : (smaller : ℕ) → smaller < number → NoPartsFit (kind smaller) level text
  pub none_smaller : NoTextIsSmaller kind text level number payload
  pub best_mask : IsFirstLeastMask (kind number) level mask grid
  pub apart : HasBlocksApart reads.carries
  pub far : IsFarFromOtherTexts grid reading reads

-- The smallest symbol of a text at a level, in the versions from a least one up to a greatest one.
pub record IsSmallestInRange (text : List ℕ) (level : EcLevel) (least limit : ℕ)
    (grid : List Color) : Type 0 where
  pub best : IsSmallestText (normal_from least) text level grid
  pub up_to : best.number ≤ limit - least

-- The symbol of the greatest level that costs no module. At the level asked for or a greater one it
-- is the smallest symbol. No grid that is read as the text at the level asked for has a smaller
-- version (`as_small`). At every greater level each has a greater version (`greatest`).
pub record IsStrongestText (text : List ℕ) (asked : EcLevel) (least limit : ℕ)
    (grid : List Color) : Type 0 where
  pub level : EcLevel
  pub at_least : column_of_level asked ≤ column_of_level level
  pub found : IsSmallestInRange text level least limit grid
  pub as_small : (other : List Color) (number payload : ℕ) (mask : MaskPattern) →
      ReadsText other (text_reading_of (normal_from least number) asked mask None text payload) →
      found.best.number ≤ number
  pub greatest : (beyond : EcLevel) → column_of_level level < column_of_level beyond →
      NoGridReadsText (normal_from least) text beyond found.best.number

-- The strongest symbol, or the smallest one at the level asked for.
abbrev pub IsStrongestOrSmallest : Bool → List ℕ → EcLevel → ℕ → ℕ → List Color → Type 0
IsStrongestOrSmallest true text level least limit grid =
    IsStrongestText text level least limit grid
IsStrongestOrSmallest false text level least limit grid =
    IsSmallestInRange text level least limit grid

-- The symbol that the options ask for: the smallest one at their level in their versions; or, if it
-- is to be the strongest, at the greatest level at which it is no larger.
abbrev pub IsTextAsAsked : SymbolOptions → List ℕ → List Color → Type 0
IsTextAsAsked options text grid =
    IsStrongestOrSmallest options.strongest text options.level (nat_abs options.min_version)
    (nat_abs options.max_version) grid

-- ---- Errors

-- The errors of `smallest_text`, and when each is returned. The versions are checked first. For
-- more than 7089 characters it needs no memory.
abbrev pub IsTextRefused : SymbolOptions → List ℕ → QrError → Type 0
IsTextRefused options text InvalidResourceLimits = HasVersions options → ⊥
IsTextRefused options text DataTooLong =
    HasVersions options
    × NoVersionFits (normal_from (nat_abs options.min_version)) options.level text
    (nat_abs options.max_version - nat_abs options.min_version)
IsTextRefused options text OutOfMemory = HasVersions options × (length text ≤ LONGEST_DATA)
IsTextRefused options text other = ⊥

-- The errors of `micro_text`, and when each is returned, in this order: no Micro version has level
-- H; the text is none that a Micro symbol can be read as; no parts that are read as it fit any of
-- the versions; an allocation failed. For more than 38 characters it needs no memory.
abbrev pub IsMicroTextRefused : EcLevel → List ℕ → MicroTextError → Type 0
IsMicroTextRefused level text Unwritable = (level ≢ H) × (HasMicroParts text → ⊥)
IsMicroTextRefused level text (Symbol (InvalidVersion version named)) =
    (level ≡ H) × (version ≡ Micro (pos 4)) × (named ≡ H)
IsMicroTextRefused level text (Symbol DataTooLong) =
    (level ≢ H) × HasMicroParts text × NoVersionFits micro level text 4
IsMicroTextRefused level text (Symbol OutOfMemory) =
    (level ≢ H) × HasMicroParts text × (length text ≤ 38)
IsMicroTextRefused level text (Symbol other) = ⊥
