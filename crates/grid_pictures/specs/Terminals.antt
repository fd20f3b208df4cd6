-- A picture as text for a terminal: one line for every two rows of pixels, in half blocks of
-- Unicode, as UTF-8.
use Rattle.std.specs.Prelude.{ℕ, ◌+◌, ◌*◌, ◌/◌, Bool, true, false, if◌then◌else◌, not}
use Rattle.std.specs.Prelude.{List, [], ◌∷◌, ◌++◌, flat_map, encode_utf8}
use Rattle.std.specs.List.{range_with_len}
use Rattle.grid_pictures.specs.Pictures.{Picture, pixel_width, pixel_height, is_dark_pixel}

-- The character that fills its upper half, its lower half, both or none: U+2588 for both, U+2580,
-- U+2584, or a space.
abbrev pub half_blocks : Bool → Bool → ℕ
half_blocks true true = 0x2588
half_blocks true false = 0x2580
half_blocks false true = 0x2584
half_blocks false false = 32

-- Whether a pixel is filled: the dark ones are, or on a dark screen the light ones.
abbrev pub is_filled : Bool → Picture → ℕ → ℕ → Bool
is_filled inverted p x y = if inverted then not (is_dark_pixel p x y) else is_dark_pixel p x y

-- The character in column x of a line: the pixels of the rows 2 * line and 2 * line + 1.
unfoldable pub terminal_character : Bool → Picture → ℕ → ℕ → List ℕ
terminal_character inverted p line x =
    encode_utf8
    (half_blocks (is_filled inverted p x (2 * line)) (is_filled inverted p x (2 * line + 1)))

-- A line: one character for each column, and a newline.
abbrev pub terminal_line : Bool → Picture → ℕ → List ℕ
terminal_line inverted p line =
    flat_map (terminal_character inverted p line) (range_with_len 0 (pixel_width p)) ++ 10 ∷ []

-- The first lines, from the top.
unfoldable pub lines_of : Bool → Picture → ℕ → List ℕ
lines_of inverted p count = flat_map (terminal_line inverted p) (range_with_len 0 count)

-- The text has one line for every two rows. A light row is below an odd last row.
abbrev pub terminal_text : Bool → Picture → List ℕ
terminal_text inverted p = lines_of inverted p ((pixel_height p + 1) / 2)
