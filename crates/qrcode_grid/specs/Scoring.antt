-- Eight candidates in one list, with one byte per module: bit m is the colour in candidate m. Used
-- by private functions.
use Rattle.std.specs.Prelude.{ℕ, ◌+◌, ◌-◌, ◌*◌, ◌/◌, ◌%◌, ◌<◌, ◌≤◌, ◌≡◌, ◌==◌, ◌&&◌, ◌||◌, Bool, if◌then◌else◌, List}
use Rattle.std.specs.Prelude.{map, length, slice_index, slice_index_or, pos, not}
use Rattle.std.specs.Int.{bit_at}
use Rattle.qrcode_grid.specs.declared.canvas.scoring.planes.Planes.{Planes}
use Rattle.qrcode_grid.specs.declared.canvas.scoring.planes.Tally.{Tally}
use Rattle.qrcode_base.specs.declared.types.Version.TheVariants.{Normal}
use Rattle.qrcode_grid.specs.declared.canvas.MaskPattern.{MaskPattern}
use Rattle.qrcode_grid.specs.declared.canvas.MaskPattern.TheVariants.{Checkerboard}
use Rattle.qrcode_grid.specs.Masks.{family}
use Rattle.qrcode_grid.specs.declared.canvas.scoring.lists.Feature.{Feature}
use Rattle.qrcode_grid.specs.declared.canvas.scoring.lists.Feature.TheVariants.{Finder, Square, Dark}
use Rattle.qrcode_grid.specs.Regions.{sum_below, count_below}
use Rattle.qrcode_grid.specs.Penalty.{byte_of, is_byte_square_at}
use Rattle.qrcode_grid.specs.declared.canvas.Module.{Module}
use Rattle.qrcode_grid.specs.declared.canvas.Module.TheVariants.{Empty, Masked, Unmasked}

-- The mask with number m in Normal symbols.
abbrev pub pattern_of : ℕ → MaskPattern
pattern_of m = slice_index_or (family (Normal (pos 1))) m Checkerboard

-- Candidate m: bit m of each byte.
abbrev pub plane : ℕ → List ℕ → List ℕ
plane m bytes = map (λ b. bit_at b m) bytes

-- Whether the byte of a module is dark: not 0.
abbrev pub is_dark_byte : ℕ → Bool
is_dark_byte b = not (b == 0)

-- Whether a square of one colour begins at index k of two rows of bytes or, without `squares`,
-- whether the upper byte there is dark.
abbrev pub has_byte : Bool → List ℕ → List ℕ → ℕ → Bool
has_byte squares upper lower k =
    if squares then is_byte_square_at upper lower k else is_dark_byte (slice_index upper k)

-- The number of lanes, of 16, in which bit m is set.
unfoldable pub bit_count : ℕ → List ℕ → ℕ
bit_count m lanes = sum_below (λ j. bit_at (slice_index lanes j) m) 16

-- Bit m of lane j is set exactly if the test of m and j is true.
pub record Marks (lanes : List ℕ) (test : ℕ → ℕ → Bool) : Type 0 where
  pub whole : length lanes ≡ 16
  pub bits : (m j : ℕ) → m < 8 → j < 16 →
      bit_at (slice_index lanes j) m ≡ (if test m j then 1 else 0)

-- The count of bit m in rows of lanes of the weights 1, 2, 4 and 8.
abbrev pub count_in_planes : ℕ → Planes → ℕ
count_in_planes m planes =
    bit_count m planes.ones + 2 * bit_count m planes.twos + 4 * bit_count m planes.fours +
    8 * bit_count m planes.eights

-- How often bit m was set.
abbrev pub tallied : ℕ → Tally → ℕ
tallied m tally = 16 * slice_index tally.sums m + count_in_planes m tally.planes

-- The distance of a row from the next one in the lists in which the penalties are counted.
abbrev pub stride : ℕ → ℕ
stride w = w + 4

-- The length of these lists.
abbrev pub list_length : ℕ → ℕ
list_length w = (w + 14) * stride w + 256

-- The number of places that are counted: those of all rows of the grid, in whole blocks of 256.
abbrev pub places : ℕ → ℕ
places w = 256 * ((w * stride w + 255) / 256)

-- The padded list has four light rows, then the rows of a grid of width w with four light modules
-- after each, then light modules to the end.
pub record IsPadded (w : ℕ) (cells padded : List ℕ) : Type 0 where
  pub grid : (x y : ℕ) → x < w → y < w →
      slice_index padded ((4 + y) * stride w + x) ≡ slice_index cells (y * w + x)
  pub beside : (x y : ℕ) → w ≤ x → x < stride w → slice_index padded (y * stride w + x) ≡ 0
  pub above : (k : ℕ) → k < 4 * stride w → slice_index padded k ≡ 0
  pub below : (k : ℕ) → (4 + w) * stride w ≤ k → slice_index padded k ≡ 0

-- The module i steps after index k.
abbrev pub cell : ℕ → List ℕ → ℕ → ℕ → ℕ
cell step cells k i = slice_index cells (k + i * step)

-- Whether the module i steps after index k has the same colour as the module one step further.
abbrev pub is_same : ℕ → List ℕ → ℕ → ℕ → Bool
is_same step cells k i = cell step cells k i == cell step cells k (i + 1)

-- The twins are 1 where a module of the first columns and rows has the same colour as the module
-- one step further, and 0 elsewhere.
pub record AreTwins (w step columns rows : ℕ) (padded twins : List ℕ) : Type 0 where
  pub same : (x y : ℕ) → x < columns → y < rows → slice_index twins (y * stride w + x) ≡
      (if is_same step padded (4 * stride w + (y * stride w + x)) 0 then 1 else 0)
  pub beside : (x y : ℕ) → columns ≤ x → x < stride w → y < rows →
      slice_index twins (y * stride w + x) ≡ 0
  pub below : (k : ℕ) → rows * stride w ≤ k → slice_index twins k ≡ 0

-- Whether five modules of one colour begin at index k, by their twins.
abbrev pub has_five : ℕ → List ℕ → ℕ → Bool
has_five step twins k =
    cell step twins k 0 == 1 && cell step twins k 1 == 1 && cell step twins k 2 == 1 &&
    cell step twins k 3 == 1

-- Whether six modules of one colour begin at index k.
abbrev pub has_six : ℕ → List ℕ → ℕ → Bool
has_six step twins k = has_five step twins k && cell step twins k 4 == 1

-- Whether four light modules begin i steps after index k.
abbrev pub is_quiet : ℕ → List ℕ → ℕ → ℕ → Bool
is_quiet step cells k i =
    cell step cells k i == 0 && cell step cells k (i + 1) == 0 &&
    cell step cells k (i + 2) == 0 && cell step cells k (i + 3) == 0

-- Whether, from the fourth step on, the modules are dark, light, three dark, light, dark, with four
-- light modules before or after them.
abbrev pub has_finder : ℕ → List ℕ → ℕ → Bool
has_finder step cells k =
    (cell step cells k 4 == 1 && cell step cells k 5 == 0 && cell step cells k 6 == 1 &&
    cell step cells k 7 == 1 && cell step cells k 8 == 1 && cell step cells k 9 == 0 &&
    cell step cells k 10 == 1) &&
    (is_quiet step cells k 0 || is_quiet step cells k 11)

-- Whether a square of one colour begins at index k, by the twins along its two rows.
abbrev pub has_square : ℕ → List ℕ → List ℕ → ℕ → Bool
has_square s padded twins k = cell s twins k 0 == 1 && cell s twins k 1 == 1 && is_same s padded k 4

-- Whether place k of a grid of width w has the feature.
abbrev pub has : Feature → ℕ → ℕ → List ℕ → List ℕ → ℕ → Bool
has Finder w step padded twins k = has_finder step padded (k + 4 * (stride w - step))
has Square w step padded twins k = has_square (stride w) padded twins k
has Dark w step padded twins k = cell (stride w) padded k 4 == 1

-- The penalty of all lines of one direction, by the twins in it. A run of n modules, where n is at
-- least 5, begins five equal modules at n - 4 places and six at n - 5, so that 3 for each five, and
-- 2 less for each six, is its penalty n - 2. A finder-like pattern counts 40.
abbrev pub lines_penalty : ℕ → ℕ → List ℕ → List ℕ → ℕ
lines_penalty w step padded twins =
    let count : (ℕ → Bool) → ℕ = λ test. count_below test (places w) in
    3 * count (has_five step twins) - 2 * count (has_six step twins) +
    40 * count (has Finder w step padded twins)

-- The code of a module: 1 if it is dark, and 2 more if a mask may invert it.
abbrev pub code_of : Module → ℕ
code_of Empty = 2
code_of (Masked c) = byte_of c
code_of (Unmasked c) = 2 + byte_of c

-- The byte of a module after masking, from its code and whether it is inverted.
abbrev pub masked_code : ℕ → Bool → ℕ
masked_code code inverted = (code % 2 + (if inverted then code / 2 else 0)) % 2
