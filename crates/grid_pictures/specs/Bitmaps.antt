-- A picture as a portable bitmap, in its binary form (`P4` of Netpbm).
use Rattle.std.specs.Prelude.{ℕ, ◌+◌, ◌*◌, ◌/◌, Bool, List, ◌++◌, map, flat_map, fold, codes}
use Rattle.std.specs.Prelude.{decimal, if◌then◌else◌}
use Rattle.std.specs.List.{range_with_len}
use Rattle.grid_pictures.specs.Pictures.{Picture, pixel_width, pixel_height, is_dark_pixel}

-- The header: "P4", and the width and the height in decimal digits.
unfoldable pub header : (width height : ℕ) → List ℕ
header width height =
    codes "P4\n" ++ (decimal width ++ (codes " " ++ (decimal height ++ codes "\n")))

-- The number of some bits, the highest first.
abbrev pub bits_number : List Bool → ℕ
bits_number bits = fold (λ n bit. n * 2 + (if bit then 1 else 0)) 0 bits

-- A byte of row y: one bit for each of the eight pixels from column 8 * place on; dark is 1.
unfoldable pub pixel_byte : Picture → ℕ → ℕ → ℕ
pixel_byte p y place = bits_number (map (λ x. is_dark_pixel p x y) (range_with_len (8 * place) 8))

-- The number of bytes of a row.
abbrev pub row_length : Picture → ℕ
row_length p = (pixel_width p + 7) / 8

-- The bytes of row y; light pixels fill up the last byte.
unfoldable pub bitmap_row : Picture → ℕ → List ℕ
bitmap_row p y = map (pixel_byte p y) (range_with_len 0 (row_length p))

-- The bytes of `count` rows, from row `first` on.
unfoldable pub rows_from : Picture → (first count : ℕ) → List ℕ
rows_from p first count = flat_map (bitmap_row p) (range_with_len first count)

-- The bytes of the first rows, from the top.
abbrev pub first_rows : Picture → ℕ → List ℕ
first_rows p rows = rows_from p 0 rows

-- The bitmap: the header and all rows.
abbrev pub bitmap_of : Picture → List ℕ
bitmap_of p = header (pixel_width p) (pixel_height p) ++ first_rows p (pixel_height p)
