-- A grid of modules: a list of colours, row after row, with the width and the height.
use Rattle.std.specs.Prelude.{◌≡◌, ℕ, ◌+◌, ◌*◌, ◌-◌, ◌≤◌, List, length, take, drop}
use Rattle.std.specs.Prelude.{Option, slice_get, slice_set, slice_range}
use Rattle.qrcode_base.specs.declared.types.Color.{Color}
use Rattle.qrcode_base.specs.declared.types.Version.{Version}
use Rattle.qrcode_base.specs.declared.types.Version.TheVariants.{Normal, Micro}

-- A grid: the colours of all rows, one row after the other from the top, and the numbers of columns
-- and rows.
pub record Grid : Type 0 where
  pub cells : List Color
  pub columns : ℕ
  pub rows : ℕ

-- The grid of a list, with its numbers of columns and rows.
abbrev pub grid_of : List Color → ℕ → ℕ → Grid
grid_of cells columns rows = record { cells = cells; columns = columns; rows = rows }

-- The list has a colour for each module of the grid; more colours may follow.
abbrev pub HasAllRows : Grid → Type 0
HasAllRows g = g.rows * g.columns ≤ length g.cells

-- The list has exactly one colour for each module of the grid.
abbrev pub IsFull : Grid → Type 0
IsFull g = length g.cells ≡ g.rows * g.columns

-- The colour in column x of row y, both counted from 0: element y * columns + x of the list.
abbrev pub color_at : Grid → ℕ → ℕ → Option Color
color_at g x y = slice_get g.cells (y * g.columns + x)

-- The colours of row y.
abbrev pub row_of : Grid → ℕ → List Color
row_of g y = take g.columns (drop (y * g.columns) g.cells)

-- The rows from `first` up to `last`, without `last`.
abbrev pub rows_between : Grid → ℕ → ℕ → Grid
rows_between g first last =
    grid_of (slice_range g.cells (first * g.columns) (last * g.columns)) g.columns (last - first)

-- The grid with another colour in column x of row y.
abbrev pub with_color : Grid → ℕ → ℕ → Color → Grid
with_color g x y c = record g { cells = slice_set g.cells (y * g.columns + x) c }

-- The width of the quiet zone in modules, on each side of a symbol (ISO/IEC 18004:2006,
-- "Quiet zone").
abbrev pub quiet_zone_of : Version → ℕ
quiet_zone_of (Normal n) = 4
quiet_zone_of (Micro n) = 2
