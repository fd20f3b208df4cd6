-- A drawing: the text of the symbol of some bytes.
use Rattle.std.specs.Prelude.{◌≡◌, ℕ, ◌*◌, List, [], ◌∷◌, ◌++◌, map, length}
use Rattle.std.specs.List.{flat_map, range_with_len}
use Rattle.qrcode_core.specs.declared.types.Color.{Color}
use Rattle.qrcode_core.specs.declared.types.Color.TheVariants.{Light, Dark}
use Rattle.qrcode_core.specs.Grids.{Grid, grid_of, row_of}
use Rattle.qrtext.specs.Calls.{IsSymbolOf}
use Rattle.qrtext.specs.declared.request.Request.{Request}

-- ---- The text of a grid: one line for each row, `#` for dark and `.` for light

-- The character of a module: `#` or `.`.
abbrev pub module_character : Color → ℕ
module_character Dark = 35
module_character Light = 46

-- The line of a row: its characters, and a newline.
abbrev pub text_line : List Color → List ℕ
text_line row = map module_character row ++ 10 ∷ []

-- The lines of the first rows, from the top.
unfoldable pub text_lines : Grid → ℕ → List ℕ
text_lines grid height = flat_map (λ y. text_line (row_of grid y)) (range_with_len 0 height)

-- The text of a grid.
abbrev pub grid_text : Grid → List ℕ
grid_text grid = text_lines grid grid.rows

-- The text is that of the square grid of the modules.
pub record IsTextOf (modules : List Color) (text : List ℕ) : Type 0 where
  pub width : ℕ
  pub square : length modules ≡ width * width
  pub text_is : text ≡ grid_text (grid_of modules width width)

-- The text shows the symbol of the bytes, as the request says.
pub record ShowsText (request : Request) (bytes text : List ℕ) : Type 0 where
  pub modules : List Color
  pub symbol : IsSymbolOf request.micro request.level bytes modules
  pub text_of : IsTextOf modules text
