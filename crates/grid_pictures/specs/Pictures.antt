-- The picture of a grid: each module is a square of pixels, and a light quiet zone surrounds the
-- grid (ISO/IEC 18004:2006, "Quiet zone").
use Rattle.std.specs.Prelude.{ℕ, ◌+◌, ◌-◌, ◌*◌, ◌/◌, ◌<◌, ◌≤◌, Bool, true, false, ◌&&◌, nat_le, nat_lt}
use Rattle.std.specs.Prelude.{Option, Some}
use Rattle.qrcode_core.specs.Grids.{Grid, color_at}
use Rattle.qrcode_core.specs.declared.types.Color.{Color}
use Rattle.qrcode_core.specs.declared.types.Color.TheVariants.{Dark}
use Rattle.picture_settings.specs.declared.bounds.TheConstants.{MAX_MODULES}

-- The grid has a module, and is not larger than a symbol: it has 1 to 177 columns and rows.
pub record IsDrawable (grid : Grid) : Type 0 where
  pub some_columns : 0 < grid.columns
  pub few_columns : grid.columns ≤ MAX_MODULES
  pub some_rows : 0 < grid.rows
  pub few_rows : grid.rows ≤ MAX_MODULES

-- A picture: a grid, the width of a module in pixels, and the width of the quiet zone in modules.
pub record Picture : Type 0 where
  pub grid : Grid
  pub scale : ℕ
  pub quiet : ℕ

-- The picture of a grid with this scale and quiet zone.
abbrev pub picture : Grid → ℕ → ℕ → Picture
picture grid scale quiet = record { grid = grid; scale = scale; quiet = quiet }

-- The number of columns of modules, with the quiet zone.
abbrev pub columns_of : Picture → ℕ
columns_of p = p.grid.columns + 2 * p.quiet

-- The number of rows of modules, with the quiet zone.
abbrev pub rows_of : Picture → ℕ
rows_of p = p.grid.rows + 2 * p.quiet

-- The width in pixels.
abbrev pub pixel_width : Picture → ℕ
pixel_width p = columns_of p * p.scale

-- The height in pixels.
abbrev pub pixel_height : Picture → ℕ
pixel_height p = rows_of p * p.scale

-- Whether there is a dark module.
abbrev pub is_dark_color : Option Color → Bool
is_dark_color (Some Dark) = true
is_dark_color _ = false

-- Whether the grid has column x of row y, and is dark there.
abbrev pub is_dark_in : Grid → ℕ → ℕ → Bool
is_dark_in g x y = nat_lt x g.columns && nat_lt y g.rows && is_dark_color (color_at g x y)

-- Whether a module is dark, by its column and row from the corner of the quiet zone. Outside the
-- grid all modules are light.
unfoldable pub is_dark_module : Picture → ℕ → ℕ → Bool
is_dark_module p x y =
    nat_le p.quiet x && nat_le p.quiet y && is_dark_in p.grid (x - p.quiet) (y - p.quiet)

-- Whether a pixel is dark, by its column and row.
abbrev pub is_dark_pixel : Picture → ℕ → ℕ → Bool
is_dark_pixel p x y = is_dark_module p (x / p.scale) (y / p.scale)
