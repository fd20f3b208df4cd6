-- The text below a picture: its lines, their room, and the size of the characters.
use Rattle.std.specs.Prelude.{ℕ, ◌+◌, ◌-◌, ◌*◌, ◌/◌, ◌%◌, min, max, Option, None, Some, option_map}
use Rattle.std.specs.Prelude.{List, [], ◌∷◌, ◌++◌, length, flat_map, fold, get_or, codes}
use Rattle.std.specs.Prelude.{decimal, chars, encode_utf8}
use Rattle.std.specs.Prelude.{Bool, ◌==◌, ◌&&◌, ◌||◌, not, nat_le, if◌then◌else◌}
use Rattle.std.specs.List.{range_with_len}
use Rattle.picture_settings.specs.declared.bounds.TheConstants.{MIN_MODULE_UM}
use Rattle.grid_pictures.specs.Pictures.{Picture, columns_of, pixel_height, pixel_width}
use Rattle.grid_pictures.specs.Terminals.{terminal_text}

-- ---- Lines

-- What is found of the lines of a text: those that are whole, and the one that goes on.
pub record Breaks : Type 0 where
  pub lines : List (List ℕ)
  pub line : List ℕ

-- These lines, and this one.
abbrev pub breaks_of : (lines : List (List ℕ)) → (line : List ℕ) → Breaks
breaks_of lines line = record { lines = lines; line = line }

-- Before the first character.
abbrev pub no_lines : Breaks
no_lines = breaks_of [] []

-- A line ends at a newline, and where it has no room for one character more. None is empty.
abbrev pub ended : (most : ℕ) → Breaks → ℕ → Breaks
ended most b c =
    if ((c == 10) || nat_le most (length b.line)) && not (length b.line == 0)
    then breaks_of (b.lines ++ b.line ∷ []) [] else b

-- One character more, which stands on a line unless it is a newline.
abbrev pub character_bytes : ℕ → List ℕ
character_bytes c = if c == 10 then [] else encode_utf8 c

abbrev pub next_character : (most : ℕ) → Breaks → ℕ → Breaks
next_character most b c =
    breaks_of (ended most b c).lines ((ended most b c).line ++ character_bytes c)

-- The lines after the last character. One that goes on ends there.
abbrev pub all_lines : Breaks → List (List ℕ)
all_lines b = if length b.line == 0 then b.lines else b.lines ++ b.line ∷ []

-- The lines of a text, of at most this many bytes: one for each of its own lines, which a newline
-- ends, or some, if it is longer.
unfoldable pub broken_lines : (most : ℕ) → (text : List ℕ) → List (List ℕ)
broken_lines most text = all_lines (fold (next_character most) no_lines (chars text))

-- The text on one line: its own lines, one after the other.
unfoldable pub one_line : (text : List ℕ) → List ℕ
one_line text = flat_map character_bytes (chars text)

-- The lines below a picture that has room for this many bytes in a line: one, if the text fits,
-- else at least one for each of its own.
abbrev pub caption_lines : (most : ℕ) → (text : List ℕ) → List (List ℕ)
caption_lines most text =
    if nat_le (length (one_line text)) most then one_line text ∷ [] else broken_lines most text

-- The first lines, as `write` writes each of them by its number.
unfoldable pub first_lines : (write : ℕ → List ℕ → List ℕ) → List (List ℕ) → ℕ → List ℕ
first_lines write lines count =
    flat_map (λ n. write n (get_or lines n [])) (range_with_len 0 count)

-- All lines.
abbrev pub each_line : (write : ℕ → List ℕ → List ℕ) → List (List ℕ) → List ℕ
each_line write lines = first_lines write lines (length lines)

-- The length of the longest line.
unfoldable pub longest : List (List ℕ) → ℕ
longest lines = fold (λ n line. max n (length line)) 0 lines

-- ---- Sizes

-- A text below a picture: its lines, and the size of their characters.
pub record Block : Type 0 where
  pub lines : List (List ℕ)
  pub size : ℕ

-- The width that a picture has for a line, counted in characters of size 1. One of a font of one
-- width is 0.6 times as wide as its size.
abbrev pub line_width : (width : ℕ) → ℕ
line_width width = width * 5 / 3

-- The size of the characters of a line: at most `most`, and such that all have room.
abbrev pub fitting : (most room length : ℕ) → ℕ
fitting most room length = min (room / max length 1) most

-- The number of characters that a line has room for, if they have the least size; at least one.
abbrev pub line_room : (least room : ℕ) → ℕ
line_room least room = max (room / least) 1

-- A text in lines, in characters of at least and at most these sizes, where a line has this room for
-- characters of size 1. They are smaller than the least only where not one of them has room.
unfoldable pub laid_out : (least most room : ℕ) → (text : List ℕ) → Block
laid_out least most room text = record {
  lines = caption_lines (line_room least room) text;
  size = fitting most room (longest (caption_lines (line_room least room) text));
}

-- The least size in hundredths of a module: 2 mm, where the size of a module is given, else 2
-- modules.
abbrev pub least_size : (module_um : Option ℕ) → ℕ
least_size None = 200
least_size (Some module_um) =
    (200000 + (max module_um MIN_MODULE_UM - 1)) / max module_um MIN_MODULE_UM

-- The greatest one: 3 modules, or the least.
abbrev pub most_size : (module_um : Option ℕ) → ℕ
most_size module_um = max (least_size module_um) 300

-- The text below a picture of so many columns, with sizes in hundredths of a module.
abbrev pub module_block : (module_um : Option ℕ) → (columns : ℕ) → (text : List ℕ) → Block
module_block module_um columns text =
    laid_out (least_size module_um) (most_size module_um) (line_width (columns * 100)) text

-- The rows of modules from one line to the next: at least 3, and as many as the characters have.
abbrev pub pitch : Block → ℕ
pitch b = max ((b.size + 99) / 100) 3

-- The rows of modules of all lines, with what is left free below the last.
abbrev pub depth : Block → ℕ
depth b = length b.lines * pitch b + pitch b / 3

-- The row of modules on which the characters of line n stand.
abbrev pub line_row : Block → (rows n : ℕ) → ℕ
line_row b rows n = rows + (n + 1) * pitch b

-- The rows of modules of a picture with the text below it, if there is one.
abbrev pub high : Option Block → (rows : ℕ) → ℕ
high None rows = rows
high (Some b) rows = rows + depth b

-- Its rows of pixels.
abbrev pub high_pixels : Option Block → Picture → ℕ
high_pixels None p = pixel_height p
high_pixels (Some b) p = pixel_height p + depth b * p.scale

-- The text below a picture, if it is given.
abbrev pub block_below : (module_um : Option ℕ) → (caption : Option (List ℕ)) → Picture →
    Option Block
block_below module_um caption p = option_map (module_block module_um (columns_of p)) caption

-- Hundredths, as a decimal number.
unfoldable pub hundredths : ℕ → List ℕ
hundredths n = decimal (n / 100) ++ (codes "." ++ (decimal (n / 10 % 10) ++ decimal (n % 10)))

-- ---- Text for a terminal

-- A line, and a newline.
abbrev pub terminal_caption_line : ℕ → List ℕ → List ℕ
terminal_caption_line n line = line ++ 10 ∷ []

-- A picture as text for a terminal, with a text below it, if it is given. A line of it is at most
-- as long as those of the picture.
abbrev pub terminal_captioned : (inverted : Bool) → (caption : Option (List ℕ)) → Picture → List ℕ
terminal_captioned inverted None p = terminal_text inverted p
terminal_captioned inverted (Some text) p =
    terminal_text inverted p ++ each_line terminal_caption_line (caption_lines (pixel_width p) text)
