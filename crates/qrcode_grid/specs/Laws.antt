-- Properties of the definitions of a symbol's grid that follow from them.
use Rattle.std.specs.Prelude.{Some, IfSome, All, ◌≡◌, ◌≢◌, ℕ, pos, ◌+◌, ◌-◌, ◌*◌, ◌%◌, ◌<◌, ◌≤◌}
use Rattle.std.specs.Prelude.{false, is_some, ◌==◌, ◌&&◌, ◌||◌}
use Rattle.qrcode_base.specs.declared.types.EcLevel.{EcLevel}
use Rattle.qrcode_base.specs.declared.types.Version.{Version}
use Rattle.qrcode_base.specs.declared.types.Version.TheVariants.{Normal}
use Rattle.qrcode_base.specs.Symbols.{width_of}
use Rattle.qrcode_grid.specs.declared.canvas.MaskPattern.{MaskPattern}
use Rattle.qrcode_grid.specs.Regions.{format_code, version_word, differing_digits, regions}
use Rattle.qrcode_grid.specs.Regions.{functional_color, is_functional_cell, alignment, alignments, alignment_count}
use Rattle.qrcode_grid.specs.Regions.{alignment_coordinate, alignment_coordinates, ring}
use Rattle.qrcode_grid.specs.Masks.{format_word}
use Rattle.qrcode_grid.specs.Walk.{cell_number, numbered_cell}

-- The format word is the one of five data bits, and differs in at least 7 of its 15 bits from that
-- of every other five bits, so from that of every other level, version or mask.
unfoldable pub IsFarFormatWord : Version → EcLevel → MaskPattern → Type 0
IsFarFormatWord version level pattern =
    (data_bits : ℕ) × (data_bits < 32) ×
    (format_word version level pattern ≡ format_code version data_bits) ×
    ((other : ℕ) → other < 32 → other ≢ data_bits →
    7 ≤ differing_digits 15 (format_word version level pattern) (format_code version other))

-- The version word differs in at least 8 of its 18 bits from that of every other version.
unfoldable pub IsFarVersionWord : Version → Type 0
IsFarVersionWord (Normal (pos n)) =
    7 ≤ n → (other : ℕ) → 7 ≤ other → other ≤ 40 → other ≢ n →
    8 ≤ differing_digits 18 (version_word n) (version_word other)
IsFarVersionWord _ = Unit {0}

-- Regions that overlap agree (`agree`): the colour that any region gives a cell is the functional
-- colour of the cell. The cells that have one are those of the whole areas (`areas`).
pub record AreConsistentRegions (version : Version) : Type 0 where
  pub areas :
      (format x y : ℕ) → x < width_of version → y < width_of version →
      is_some (functional_color version format x y) ≡ is_functional_cell version x y
  pub agree :
      (format x y : ℕ) → x < width_of version → y < width_of version →
      All (λ says. IfSome says (λ c. functional_color version format x y ≡ Some c))
      (regions version format x y)

-- Every pair of centre coordinates has its alignment pattern, except the first with the first, the
-- first with the last, and the last with the first, where the finder patterns are (`drawn`). The
-- coordinates after the first have equal steps up to the last (`spaced`). The step is the least
-- even one that reaches the first coordinate (`even`, `reaches`, `least`), except in version 32.
pub record HasEveryAlignment (n : ℕ) : Type 0 where
  pub drawn :
      (i j x y : ℕ) → i < alignment_count n → j < alignment_count n →
      (let last = alignment_count n - 1 in
      (i == 0 && j == 0) || (i == 0 && j == last) || (i == last && j == 0)) ≡ false →
      ring (alignment_coordinate n i) (alignment_coordinate n j) x y ≤ 2 →
      alignments (4 * n + 17) (alignment_coordinates n) x y ≡
      alignment (alignment_coordinate n i) (alignment_coordinate n j) x y
  pub step : ℕ
  pub spaced :
      (k : ℕ) → 1 ≤ k → k < alignment_count n →
      alignment_coordinate n k ≡ 4 * n + 10 - (alignment_count n - 1 - k) * step
  pub even : step % 2 ≡ 0
  pub reaches : 2 ≤ n → n ≢ 32 → 4 * n + 4 ≤ (alignment_count n - 1) * step
  pub least : 2 ≤ n → n ≢ 32 → (alignment_count n - 1) * (step - 2) < 4 * n + 4

-- A Normal version has every alignment pattern; a Micro version has none.
unfoldable pub HasItsAlignments : Version → Type 0
HasItsAlignments (Normal (pos n)) = HasEveryAlignment n
HasItsAlignments _ = Unit {0}

-- The walk in a symbol of width w visits every cell outside the timing column t exactly once: the
-- cell of each number is one of these (`inside`), each of them is the cell of its number (`every`),
-- and each number is that of its cell (`once`).
pub record IsWalkOf (w t : ℕ) : Type 0 where
  pub inside :
      (k : ℕ) → k < w * (w - 1) →
      (let cell = numbered_cell w t k in (cell.0 < w) × (cell.1 < w) × (cell.0 ≢ t))
  pub every :
      (x y : ℕ) → x < w → y < w → x ≢ t →
      (let k = cell_number w t x y in (k < w * (w - 1)) × (numbered_cell w t k ≡ (x, y)))
  pub once :
      (k : ℕ) → k < w * (w - 1) →
      (let cell = numbered_cell w t k in cell_number w t cell.0 cell.1 ≡ k)
