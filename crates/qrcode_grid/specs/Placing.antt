-- The placement of bits in the data cells, step by step: used by private functions.
use Rattle.std.specs.Prelude.{◌≡◌, ◌==◌, if◌then◌else◌, ◌≤◌, Bool, ℕ, ◌+◌, ◌-◌, ◌*◌, ◌/◌, ◌%◌, ◌^◌, ◌<◌, List, ◌++◌}
use Rattle.std.specs.Prelude.{drop, length, slice_index_or, slice_get, Option, Some, None}
use Rattle.qrcode_grid.specs.declared.canvas.Module.{Module}
use Rattle.qrcode_grid.specs.declared.canvas.Module.TheVariants.{Empty, Masked, Unmasked}
use Rattle.qrcode_grid.specs.declared.canvas.data.BitsAhead.{BitsAhead}
use Rattle.qrcode_grid.specs.declared.canvas.data.streams.Streams.{Streams}
use Rattle.qrcode_grid.specs.declared.canvas.data.Columns.{Columns}
use Rattle.qrcode_grid.specs.Walk.{walk_column, bit_color, symbol_bits, place_in_walk, along_walk, fill_empty}
use Rattle.qrcode_base.specs.Numbers.{number_bits}

-- The bits of a symbol with these codewords.
abbrev pub stream_bits : Streams → List Bool
stream_bits s = symbol_bits s.left_out s.interleaved.now s.correction.now

-- The bits of the data and correction codewords from number n on.
abbrev pub bits_after : ℕ → List ℕ → List ℕ → ℕ → List Bool
bits_after left_out interleaved correction n =
    symbol_bits left_out (drop n interleaved) (drop (n - length interleaved) correction)

-- The bits of a symbol's codewords from a number on.
abbrev pub codewords_from : Streams → ℕ → List Bool
codewords_from s = bits_after s.left_out s.interleaved.now s.correction.now

-- The bits that are still to be placed: the low bits of a codeword, and the bits of the codewords
-- after it.
abbrev pub bits_from : Streams → BitsAhead → List Bool
bits_from s bits = number_bits bits.left bits.word ++ codewords_from s bits.next

-- The module after a bit is put into it, which only an empty module takes.
abbrev pub filled : Module → Option Bool → Module
filled Empty (Some bit) = Unmasked (bit_color bit)
filled Empty None = Empty
filled (Masked c) bit = Masked c
filled (Unmasked c) bit = Unmasked c

-- The number of bits that a module takes.
abbrev pub bits_taken : Module → ℕ
bits_taken Empty = 1
bits_taken (Masked c) = 0
bits_taken (Unmasked c) = 0

-- The list ys is xs with the first n cells of the walk filled, and `ahead` has the bits that
-- are left.
pub record FilledBelow (w t : ℕ) (bits : List Bool) (xs ys : List Module) (n : ℕ)
    (ahead : List Bool) : Type 0 where
  pub size : length ys ≡ length xs
  pub done :
      (k : ℕ) → k < n → k < w * (w - 1) →
      slice_index_or ys (place_in_walk w t k) Empty ≡
      slice_index_or (fill_empty (along_walk w t xs) bits) k Empty
  pub rest :
      (k : ℕ) → n ≤ k → k < w * (w - 1) →
      slice_index_or ys (place_in_walk w t k) Empty ≡ slice_index_or xs (place_in_walk w t k) Empty
  pub left : drop n (fill_empty (along_walk w t xs) bits) ≡
      fill_empty (drop n (along_walk w t xs)) ahead
  pub timing : (y : ℕ) → y < w → slice_get ys (y * w + t) ≡ slice_get xs (y * w + t)

-- If the first n cells of the walk are filled in `old`, the next `count` cells are filled too
-- in `new`.
abbrev pub FillsCells : ℕ → ℕ → ℕ → ℕ → List Bool → List Bool → List Module → List Module → Type 0
FillsCells w t n count before after old new =
    (bits : List Bool) (xs : List Module) → FilledBelow w t bits xs old n before →
    FilledBelow w t bits xs new (n + count) after

-- Bit k of a number as a data module.
abbrev pub data_bit : ℕ → ℕ → Module
data_bit word k = Unmasked (bit_color (word / 2 ^ k % 2 == 1))

-- The index of the left module in a row of a pair of columns, where rows are counted along
-- the walk.
abbrev pub row_place : Columns → ℕ → ℕ
row_place c rows = (if c.up then c.width - 1 - rows else rows) * c.width + c.left

-- The modules at an index and the next are empty.
abbrev pub IsEmptyRow : List Module → ℕ → Type 0
IsEmptyRow modules place =
    (slice_index_or modules place Empty ≡ Empty) ×
    (slice_index_or modules (place + 1) Empty ≡ Empty)

-- The columns are the pair of this number, in a symbol with this timing column.
pub record IsPair (t pair : ℕ) (c : Columns) : Type 0 where
  pub odd : c.width % 2 ≡ 1
  pub timing : t < c.width
  pub below : pair < c.width / 2
  pub up : c.up ≡ (pair % 2 == 0)
  pub left : c.left ≡ walk_column c.width t (2 * pair + 1)
  pub right : c.left + 1 ≡ walk_column c.width t (2 * pair)

-- If the cells before row `first` of a pair of columns are filled in `old`, the cells of the next
-- `count` rows are filled too in `new`.
abbrev pub FillsRows : Columns → ℕ → ℕ → List Bool → List Bool → List Module → List Module → Type 0
FillsRows c first count before after old new =
    (t pair : ℕ) → IsPair t pair c →
    FillsCells c.width t (pair * (2 * c.width) + 2 * first) (2 * count) before after old new
