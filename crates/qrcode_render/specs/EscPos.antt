-- A picture as raster images of ESC/POS, for ticket printers (Epson, "ESC/POS Command Reference":
-- `GS v 0`, `ESC d`, `GS V`). An image prints where the paper is, and moves it on, so that images
-- follow each other.
use Rattle.std.specs.Prelude.{ℕ, ◌+◌, ◌-◌, ◌*◌, ◌/◌, ◌%◌, min, List, [], ◌∷◌, ◌++◌, flat_map}
use Rattle.std.specs.Prelude.{Bool, true, false, Option, Some, None}
use Rattle.std.specs.List.{range_with_len}
use Rattle.picture_settings.specs.declared.bounds.TheConstants.{BAND_ROWS}
use Rattle.grid_pictures.specs.Pictures.{Picture, pixel_height}
use Rattle.grid_pictures.specs.Bitmaps.{row_length, rows_from}

-- A number in two bytes, the lower first.
abbrev pub two_bytes : ℕ → List ℕ
two_bytes n = n % 256 ∷ n / 256 ∷ []

-- The head of an image: `GS v 0`, the mode 0 of pixels as they are, the number of bytes in a row,
-- and the number of rows.
abbrev pub raster_head : (bytes rows : ℕ) → List ℕ
raster_head bytes rows = 0x1D ∷ 0x76 ∷ 0x30 ∷ 0 ∷ (two_bytes bytes ++ two_bytes rows)

-- The image of `count` rows of the picture, from row `first` on.
unfoldable pub raster : Picture → (first count : ℕ) → List ℕ
raster p first count = raster_head (row_length p) count ++ rows_from p first count

-- The image of band n: the next 255 rows, or those that are left.
abbrev pub band : Picture → ℕ → List ℕ
band p n = raster p (n * BAND_ROWS) (min (pixel_height p - n * BAND_ROWS) BAND_ROWS)

-- The first bands, from the top.
unfoldable pub first_bands : Picture → ℕ → List ℕ
first_bands p count = flat_map (band p) (range_with_len 0 count)

-- The picture in bands.
abbrev pub escpos_text : Picture → List ℕ
escpos_text p = first_bands p ((pixel_height p + (BAND_ROWS - 1)) / BAND_ROWS)

-- The command that moves the paper by a number of lines: `ESC d`.
abbrev pub feed_command : Option ℕ → List ℕ
feed_command None = []
feed_command (Some lines) = 0x1B ∷ 0x64 ∷ lines ∷ []

-- The command that moves the paper to the cutter, and cuts it up to one point: `GS V`, 66, 0.
abbrev pub cut_command : Bool → List ℕ
cut_command false = []
cut_command true = 0x1D ∷ 0x56 ∷ 66 ∷ 0 ∷ []

-- The picture, and then the commands for the paper.
abbrev pub ticket_text : (feed : Option ℕ) → (cut : Bool) → Picture → List ℕ
ticket_text feed cut p = escpos_text p ++ (feed_command feed ++ cut_command cut)
