-- A grid that is turned clockwise by quarters.
use Rattle.std.specs.Prelude.{ℕ, ◌-◌, Bool, true, false, if◌then◌else◌, List, map, Option, Some, None, flat_map}
use Rattle.std.specs.List.{range_with_len}
use Rattle.qrcode_core.specs.Grids.{Grid, grid_of, color_at}
use Rattle.qrcode_core.specs.declared.types.Color.{Color}
use Rattle.qrcode_core.specs.declared.types.Color.TheVariants.{Light}
use Rattle.label_words.specs.declared.command.Turn.{Turn}
use Rattle.label_words.specs.declared.command.Turn.TheVariants.{Upright, Right, Over, Left}

-- The column and the row of the module that is seen in column x of row y, of n columns and rows.
abbrev pub source_of : Turn → ℕ → ℕ → ℕ → ℕ × ℕ
source_of Upright n x y = (x, y)
source_of Right n x y = (y, n - 1 - x)
source_of Over n x y = (n - 1 - x, n - 1 - y)
source_of Left n x y = (n - 1 - y, x)

abbrev pub is_upright : Turn → Bool
is_upright Upright = true
is_upright _ = false

abbrev pub color_or_light : Option Color → Color
color_or_light (Some color) = color
color_or_light None = Light

-- The color that is seen in column x of row y.
abbrev pub seen_at : Turn → Grid → ℕ → ℕ → Color
seen_at turn g y x =
    color_or_light (color_at g (source_of turn g.columns x y).0 (source_of turn g.columns x y).1)

-- The colors of row y.
abbrev pub seen_row : Turn → Grid → ℕ → List Color
seen_row turn g y = map (seen_at turn g y) (range_with_len 0 g.columns)

-- The grid, which is a square, after a turn. Example: a turn by 90 degrees moves the module in
-- column x of row y of 21 to column 20 - y of row x.
abbrev pub turned : Turn → Grid → Grid
turned turn g =
    if is_upright turn then g
    else grid_of (flat_map (seen_row turn g) (range_with_len 0 g.columns)) g.columns g.columns
