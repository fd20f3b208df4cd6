-- The best symbol of some bytes at a level: it is the smallest one, and it can be read in only one
-- way (ISO/IEC 18004:2006, encode procedure). The promise is `IsBest`, near the end of the file,
-- since each definition comes after those that it uses: first what a reader finds in a grid, then
-- distance, then better symbols.
use Rattle.std.specs.Prelude.{◌≡◌, ℕ, ◌+◌, ◌*◌, Bool, List, ◌++◌, length, map, Option, Some, ◌≢◌}
use Rattle.std.specs.Prelude.{pos, ◌<◌, ◌≤◌, None, ◌==◌}
use Rattle.std.specs.Prelude.{if◌then◌else◌, codes}
use Rattle.qrcode_base.specs.declared.symbols.BlockLayout.{BlockLayout}
use Rattle.qrcode_base.specs.declared.symbols.TheConstants.{LONGEST_DATA}
use Rattle.qrcode_base.specs.declared.types.Color.{Color}
use Rattle.qrcode_base.specs.declared.types.EcLevel.{EcLevel}
use Rattle.qrcode_base.specs.declared.types.Version.{Version}
use Rattle.qrcode_base.specs.Numbers.{byte_bits, zero_bits}
use Rattle.qrcode_base.specs.Symbols.{blocks_of, block_sizes, missing_bits, width_of}
use Rattle.qrcode_bits.specs.Contents.{parsed_bytes, IsFirstNoElement, AreElements}
use Rattle.qrcode_bits.specs.Frame.{Header, Front, front_of, no_front, front_bits, IsFrame, HasSingleUnits}
use Rattle.qrcode_bits.specs.declared.bits.front.Content.{Content}
use Rattle.qrcode_bits.specs.declared.bits.front.Content.TheVariants.{Text, Elements}
use Rattle.qrcode_grid.specs.declared.canvas.MaskPattern.{MaskPattern}
use Rattle.qrcode_grid.specs.Blocks.{AreCodewords, AreBlocksApart, codeword_block}
use Rattle.qrcode_grid.specs.Codes.{AreBytes, distance}
use Rattle.qrcode_grid.specs.Walk.{left_over}
use Rattle.qrcode_grid.specs.Masks.{IsOfFamily, raw_colors, HasFunctionalColors}
use Rattle.qrcode_grid.specs.Regions.{is_dark}
use Rattle.qrcode_base.specs.declared.types.EcLevel.TheVariants.{L}
use Rattle.qrcode_base.specs.declared.types.Version.TheVariants.{Micro}
use Rattle.qrcode_base.specs.declared.types.errors.QrError.{QrError}
use Rattle.qrcode_base.specs.declared.types.errors.QrError.TheVariants.{DataTooLong, OutOfMemory}
use Rattle.qrcode_base.specs.declared.types.errors.QrError.TheVariants.{InvalidCharacter}
use Rattle.qrcode_bits.specs.declared.optimize.Segment.{Segment}
use Rattle.qrcode_bits.specs.Plans.{normal, micro, Fits, FitsNot, FitsNone, IsLeastBits}
use Rattle.qrcode_grid.specs.Penalty.{IsFirstLeastMask}
use Rattle.qrcode_base.specs.declared.types.Color.TheVariants.{Light, Dark}
use Rattle.qrcode_grid.specs.declared.canvas.MaskPattern.TheVariants.{Diamonds}

-- ---- What a grid says: the reader of a symbol, as a relation (ISO/IEC 18004:2006, reference
-- decode algorithm, without the correction of errors). It does not describe how a symbol is made.

-- What a reader finds in a grid: the bytes, the version, level and mask of the symbol, the front,
-- which is the header of a sequence if there is one and what the bytes are, and the payload, which
-- is the number of bits before the terminator.
pub record Reading : Type 0 where
  pub bytes : List ℕ
  pub version : Version
  pub level : EcLevel
  pub mask : MaskPattern
  pub front : Front
  pub payload : ℕ

-- A grid carries data bits, in a version, at a level and under a mask.
--
-- The functional modules are those of the version, and encode the level and the mask
-- (`functional`). The data cells in their order, with the mask removed and a dark module as one,
-- hold the interleaved data codewords, then the interleaved correction codewords, then zeros in the
-- remainder cells (`cells`). The codewords, put back in order, are sound blocks (`sound`), and
-- their data are the bits (`bits_are`).
--
-- In M1 and M3 symbols the last data codeword has four bits: its low half is not drawn, and is
-- zero (`drawn_is`).
pub record Carries (grid : List Color) (version : Version) (level : EcLevel) (mask : MaskPattern)
    (bits : List Bool) : Type 0 where
  pub blocks : BlockLayout
  pub interleaved : List ℕ
  pub correction : List ℕ
  pub codewords : List ℕ
  pub drawn : List Bool
  pub has_level : blocks_of version level ≡ Some blocks
  pub has_mask : IsOfFamily version mask
  pub is_square : length grid ≡ width_of version * width_of version
  pub functional : HasFunctionalColors version level mask grid
  pub cells : map is_dark (raw_colors version mask grid) ≡
      drawn ++ (byte_bits correction ++ zero_bits (left_over version))
  pub drawn_is : byte_bits interleaved ≡ drawn ++ zero_bits (missing_bits version)
  pub bytes_interleaved : AreBytes interleaved
  pub bytes_correction : AreBytes correction
  pub sound : AreCodewords blocks.correction (block_sizes blocks) codewords interleaved correction
  pub bits_are : byte_bits codewords ≡ bits ++ zero_bits (missing_bits version)

-- A reader finds this in a grid: the grid carries a frame of the bytes, that is front, segments,
-- terminator and padding, in the version, at the level and under the mask.
pub record Reads (grid : List Color) (reading : Reading) : Type 0 where
  pub frame : List Bool
  pub carries : Carries grid reading.version reading.level reading.mask frame
  pub framed : IsFrame reading.version reading.level reading.front reading.bytes reading.payload
      frame

-- No grid can be read in two ways.
abbrev pub HaveOneReading : Type 0
HaveOneReading =
    (grid : List Color) (first second : Reading) →
    Reads grid first → Reads grid second → first ≡ second

-- No grid carries two lists of bits, or bits in two versions, at two levels or under two masks.
abbrev pub HaveOneContent : Type 0
HaveOneContent =
    (grid : List Color) (v w : Version) (l m : EcLevel) (p q : MaskPattern) (a b : List Bool) →
    Carries grid v l p a → Carries grid w m q b → (v ≡ w) × (l ≡ m) × (p ≡ q) × (a ≡ b)

-- ---- Distance

-- Each block of codewords that a grid carries differs from every other sound block of its length
-- in more codewords than it has correction codewords.
abbrev pub HasBlocksApart : {grid : List Color} {version : Version} {level : EcLevel}
    {mask : MaskPattern} {bits : List Bool} → Carries grid version level mask bits → Type 0
HasBlocksApart carried =
    AreBlocksApart carried.blocks.correction (block_sizes carried.blocks) carried.interleaved
    carried.correction

-- Every other grid that is read as other bytes, at the same version and level, differs from this
-- grid: in some block they differ in more codewords than the block has correction codewords.
abbrev pub IsFarFromOthers : (grid : List Color) (reading : Reading) → Reads grid reading → Type 0
IsFarFromOthers grid r f =
    (other : List Color) (s : Reading) (g : Reads other s) →
    s.version ≡ r.version → s.level ≡ r.level → s.bytes ≢ r.bytes →
    let n = f.carries.blocks.correction in
    let sizes = block_sizes f.carries.blocks in
    (block : ℕ) × (block < length sizes) ×
    (n < distance (codeword_block n sizes f.carries.interleaved f.carries.correction block)
    (codeword_block n sizes g.carries.interleaved g.carries.correction block))

-- Every grid that can be read is far from the grids that are read as other bytes.
abbrev pub HaveDistance : Type 0
HaveDistance = (grid : List Color) (r : Reading) (f : Reads grid r) → IsFarFromOthers grid r f

-- ---- No better symbol

-- The reading with these parts.
abbrev pub reading_of :
    Version → EcLevel → MaskPattern → Front → List ℕ → ℕ → Reading
reading_of version level mask front bytes payload = record {
  bytes = bytes;
  version = version;
  level = level;
  mask = mask;
  front = front;
  payload = payload;
}

-- Where the data have single units (in bytes, no two neighbours are a pair of the Kanji mode; a
-- text may be any; elements have no `%`), no grid is better than one that holds them in version
-- `number` with this payload. Every grid that is read as the same data at the level, after the same
-- front, has the same or a greater version number of this kind, and in the same version at least as
-- many payload bits. The data of that grid may be cut into segments anywhere.
abbrev pub NoneIsBetter : (ℕ → Version) → Front → List ℕ → EcLevel → ℕ → ℕ → Type 0
NoneIsBetter kind front bytes level number payload =
    HasSingleUnits front.content bytes → (grid : List Color) (other bits : ℕ) (mask : MaskPattern) →
    Reads grid (reading_of (kind other) level mask front bytes bits) →
    (number ≤ other) × (other ≡ number → payload ≤ bits)

-- The same for grids with a header before the content: in the same version they have at least 20
-- more payload bits.
abbrev pub NoneIsBetterWithHeader :
    (ℕ → Version) → Content → List ℕ → EcLevel → ℕ → ℕ → Type 0
NoneIsBetterWithHeader kind content bytes level number payload =
    HasSingleUnits content bytes →
    (grid : List Color) (other bits : ℕ) (mask : MaskPattern) (header : Header) →
    Reads grid (reading_of (kind other) level mask (front_of (Some header) content) bytes bits) →
    (number ≤ other) × (other ≡ number → payload + 20 ≤ bits)

-- No grid of a version of this kind is read as the data at the level, with or without a header
-- before them.
abbrev pub NoneIsRead : (ℕ → Version) → Content → List ℕ → EcLevel → Type 0
NoneIsRead kind content bytes level =
    (grid : List Color) (number payload : ℕ) (mask : MaskPattern) (header : Option Header) →
    Reads grid (reading_of (kind number) level mask (front_of header content) bytes payload) → ⊥

-- ---- The best symbol

-- The best symbol of some data at a level, after a front, among the versions of one kind: `normal`
-- or `micro`, which give the version of each number. The data are bytes, a text or elements, as
-- the front says, and its plans are those of the bytes as which they are parsed.
--
-- A reader finds the data at the level in it (`reads`), and nothing else: no other bytes, version,
-- level, mask, front or number of payload bits (`only`). Its functional modules have their colours
-- (`functional`). Some plan of segments fits its version (`fits`), and none fits a smaller one
-- (`smallest`). The payload bits are the fewest of all plans there (`fewest`). Where the data have
-- single units, no other grid of them is better (`none_better`). The mask is the first under which
-- the grid has the least penalty (`best_mask`). Each block differs from every other sound block of
-- its length in more codewords than it has correction codewords (`apart`), and every grid of the
-- same version and level that is read as other bytes differs from this one by as much in some block
-- (`far`).
pub record IsBest (kind : ℕ → Version) (front : Front) (bytes : List ℕ) (level : EcLevel)
    (grid : List Color) : Type 0 where
  pub number : ℕ
  pub mask : MaskPattern
  pub payload : ℕ
  pub plan : List Segment
  pub reading : Reading
  pub says : reading ≡ reading_of (kind number) level mask front bytes payload
  pub reads : Reads grid reading
  pub only : (other : Reading) → Reads grid other → other ≡ reading
  pub functional : HasFunctionalColors (kind number) level mask grid
  pub fits : Fits (length (front_bits front)) (parsed_bytes front.content bytes) (kind number) level plan
  pub smallest : (smaller : ℕ) → smaller < number →
      FitsNot (length (front_bits front)) (parsed_bytes front.content bytes) (kind smaller) level
  pub fewest : IsLeastBits (length (front_bits front)) (parsed_bytes front.content bytes) (kind number)
      payload
  pub none_better : NoneIsBetter kind front bytes level number payload
  pub best_mask : IsFirstLeastMask (kind number) level mask grid
  pub apart : HasBlocksApart reads.carries
  pub far : IsFarFromOthers grid reading reads

-- The best Normal symbol, in a version up to a limit.
pub record IsBestUpTo (front : Front) (bytes : List ℕ) (level : EcLevel) (limit : ℕ)
    (grid : List Color) : Type 0 where
  pub best : IsBest normal front bytes level grid
  pub up_to : best.number ≤ limit

-- The best Normal symbol of some bytes, without a header.
abbrev pub IsBestSymbol : List ℕ → EcLevel → List Color → Type 0
IsBestSymbol bytes level grid = IsBest normal no_front bytes level grid

-- The best Micro symbol of some bytes.
abbrev pub IsBestMicroSymbol : List ℕ → EcLevel → List Color → Type 0
IsBestMicroSymbol bytes level grid = IsBest micro no_front bytes level grid

-- The best symbol of a text in UTF-8, after its ECI designator.
abbrev pub IsBestText : List ℕ → EcLevel → List Color → Type 0
IsBestText text level grid = IsBest normal (front_of None Text) text level grid

-- The best symbol of GS1 elements, after FNC1 in the first position.
abbrev pub IsBestElements : List ℕ → EcLevel → List Color → Type 0
IsBestElements elements level grid = IsBest normal (front_of None Elements) elements level grid

-- ---- Errors

-- No plan of the data fits version 40, after the front.
abbrev pub IsTooLongAfter : Front → List ℕ → EcLevel → Type 0
IsTooLongAfter front bytes level =
    FitsNot (length (front_bits front)) (parsed_bytes front.content bytes) (normal 40) level

-- No plan of the bytes fits version 40.
abbrev pub IsTooLong : List ℕ → EcLevel → Type 0
IsTooLong bytes level = FitsNot 0 bytes (normal 40) level

-- No plan of the bytes fits any Micro version.
abbrev pub IsTooLongForMicro : List ℕ → EcLevel → Type 0
IsTooLongForMicro bytes level = FitsNone micro 0 bytes level 4

-- The errors of `symbol`, and when each is returned. For more than 7089 bytes it needs no memory.
abbrev pub IsRefusal : List ℕ → EcLevel → QrError → Type 0
IsRefusal bytes level DataTooLong = IsTooLong bytes level
IsRefusal bytes level OutOfMemory = length bytes ≤ LONGEST_DATA
IsRefusal bytes level other = ⊥

-- The errors of `Symbol::text`, and when each is returned, as of `symbol`.
abbrev pub IsTextRefusal : List ℕ → EcLevel → QrError → Type 0
IsTextRefusal text level DataTooLong = IsTooLongAfter (front_of None Text) text level
IsTextRefusal text level OutOfMemory = length text ≤ LONGEST_DATA
IsTextRefusal text level other = ⊥

-- The errors of `Symbol::elements`. The bytes are looked at first.
abbrev pub IsElementsRefusal : List ℕ → EcLevel → QrError → Type 0
IsElementsRefusal elements level (InvalidCharacter place byte) =
    IsFirstNoElement elements place byte
IsElementsRefusal elements level DataTooLong =
    AreElements elements × IsTooLongAfter (front_of None Elements) elements level
IsElementsRefusal elements level OutOfMemory =
    AreElements elements × (length elements ≤ LONGEST_DATA)
IsElementsRefusal elements level other = ⊥

-- ---- A printed symbol: the digits 12345 in M1 at level L, under the mask Diamonds

-- The colour of a printed character: `#` is dark.
abbrev pub printed_color : ℕ → Color
printed_color c = if c == 35 then Dark else Light

-- The characters of the printed symbol, row after row.
abbrev pub printed_rows : List ℕ
printed_rows =
    codes "#######.#.#" ++
    (codes "#.....#.##." ++
    (codes "#.###.#.#.." ++
    (codes "#.###.#...." ++
    (codes "#.###.#.###" ++
    (codes "#.....#..##" ++
    (codes "#######.#.." ++
    (codes ".........##" ++
    (codes "##..###..##" ++
    (codes ".#.#...##.." ++
    codes "####.....##")))))))))

-- The grid of the printed symbol, of the digits 12345 in M1.
abbrev pub printed : List Color
printed = map printed_color printed_rows

-- What a reader finds in the printed symbol.
abbrev pub printed_reading : Reading
printed_reading = record {
  bytes = codes "12345";
  version = Micro (pos 1);
  level = L;
  mask = Diamonds;
  front = no_front;
  payload = 20;
}
