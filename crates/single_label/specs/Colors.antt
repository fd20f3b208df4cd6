-- Text for a terminal in colors of its own, so that it is read on a dark and on a light ground
-- (ECMA-48, "SGR - Select Graphic Rendition"; 38;5 and 48;5 select colors of 256, ISO/IEC 8613-6).
use Rattle.std.specs.Prelude.{ℕ, ◌==◌, if◌then◌else◌, List, [], ◌∷◌, ◌++◌, codes, flat_map}

-- Black on white: colors 16 and 231 of 256.
abbrev pub black_on_white : List ℕ
black_on_white = 27 ∷ codes "[38;5;16;48;5;231m"

-- The colors of the terminal.
abbrev pub plain_colors : List ℕ
plain_colors = 27 ∷ codes "[0m"

-- A newline has the colors of the terminal, so that they are not those of the rest of the line.
abbrev pub colored_byte : ℕ → List ℕ
colored_byte byte = if byte == 10 then plain_colors ++ (10 ∷ black_on_white) else byte ∷ []

-- A text in black on white, and the colors of the terminal after it.
abbrev pub in_colors : List ℕ → List ℕ
in_colors text = black_on_white ++ (flat_map colored_byte text ++ plain_colors)
