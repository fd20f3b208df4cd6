-- Lines of text as pixels, in letters of a font of 5 by 8 pixels.
use Rattle.std.specs.Prelude.{ℕ, ◌+◌, ◌-◌, ◌*◌, ◌/◌, ◌%◌, ◌^◌, Bool, ◌==◌, ◌&&◌, ◌||◌, nat_le}
use Rattle.std.specs.Prelude.{List, [], length, map, flat_map, replicate, get_or, nat_lt}
use Rattle.std.specs.Prelude.{if◌then◌else◌}
use Rattle.std.specs.List.{range_with_len}
use Rattle.std.specs.String.{string_bytes}
use Rattle.grid_pictures.specs.Bitmaps.{bits_number}
use Rattle.grid_pictures.specs.declared.lettering.Lettering.{Lettering}
use Rattle.grid_pictures.specs.declared.letters.TheConstants.{LETTERS}

-- ---- The font

-- The rows of a letter, from the top, by the table of the font. What is not a character of ASCII
-- that is printed is drawn as `?`.
abbrev pub letter_rows : ℕ → List ℕ
letter_rows c = get_or LETTERS (if nat_lt c 32 || nat_lt 126 c then 31 else c - 32) []

-- Whether a pixel of a letter is dark, by its column and its row in a line. A line has ten rows:
-- the eight of its letters, and a light one above and below them.
unfoldable pub is_dark_letter : (c column row : ℕ) → Bool
is_dark_letter c column row =
    nat_le 1 row && (nat_le row 8
    && (get_or (letter_rows c) (row - 1) 0 / 2 ^ (4 - column) % 2 == 1))

-- ---- Texts

-- Lines of text, the width in pixels in whose middle they are, and how many pixels wide and high a
-- pixel of the font is.
pub record Text : Type 0 where
  pub lines : List (List ℕ)
  pub width : ℕ
  pub size : ℕ

-- The text that the program draws.
abbrev pub text_of : Lettering → Text
text_of t = record { lines = map string_bytes t.lines.now; width = t.width; size = t.size }

-- The rows of the font's pixels.
abbrev pub font_rows : Text → ℕ
font_rows t = 10 * length t.lines

-- The height in pixels.
abbrev pub text_height : Text → ℕ
text_height t = font_rows t * t.size

-- The column of pixels in which a line begins.
abbrev pub line_start : Text → (line : List ℕ) → ℕ
line_start t line = (t.width - length line * (5 * t.size)) / 2

-- Whether a pixel of a line is dark, by its column in the pixels of the font, and its row.
abbrev pub is_dark_in_line : (line : List ℕ) → (column row : ℕ) → Bool
is_dark_in_line line column row =
    nat_lt (column / 5) (length line)
    && is_dark_letter (get_or line (column / 5) 0) (column % 5) row

-- Whether the pixel in column x is dark, in a row of the font's pixels.
unfoldable pub is_dark_text : Text → (x row : ℕ) → Bool
is_dark_text t x row =
    let line : List ℕ = get_or t.lines (row / 10) [] in
    nat_le (line_start t line) x
    && is_dark_in_line line ((x - line_start t line) / t.size) (row % 10)

-- ---- Bytes

-- A byte of a row: one bit for each of the eight pixels from column 8 * place on; dark is 1.
unfoldable pub text_byte : Text → (row place : ℕ) → ℕ
text_byte t row place = bits_number (map (λ x. is_dark_text t x row) (range_with_len (8 * place) 8))

-- The bytes of a row.
unfoldable pub text_row : Text → ℕ → List ℕ
text_row t row = map (text_byte t row) (range_with_len 0 ((t.width + 7) / 8))

-- The same bytes, several times.
abbrev pub repeated : (count : ℕ) → List ℕ → List ℕ
repeated count bytes = flat_map (λ b. b) (replicate count bytes)

-- The bytes of the first rows, each as often as a pixel of the font is high.
unfoldable pub text_bytes : Text → (rows : ℕ) → List ℕ
text_bytes t rows = flat_map (λ row. repeated t.size (text_row t row)) (range_with_len 0 rows)
