-- The words of colours (W3C, "CSS Color Module Level 3").
use Rattle.std.specs.Prelude.{ℕ, ◌+◌, ◌-◌, ◌*◌, ◌==◌, true, false, ◌&&◌, nat_le, List, [], ◌∷◌}
use Rattle.std.specs.Prelude.{Option, Some, None, option_map, option_and_then, bytes_eq, codes}
use Rattle.std.specs.Prelude.{length, get_or, if◌then◌else◌}
use Rattle.picture_settings.specs.declared.colors.Ground.{Ground}
use Rattle.picture_settings.specs.declared.colors.Ground.TheVariants.{Color, Transparent}
use Rattle.picture_settings.specs.declared.colors.Rgb.{Rgb}

-- A colour by its parts.
abbrev pub rgb : (red green blue : ℕ) → Rgb
rgb red green blue = record { red = red; green = green; blue = blue }

-- The sixteen names (4.1, "Basic color keywords").
abbrev pub color_names : List (List ℕ × Rgb)
color_names =
    (codes "black", rgb 0 0 0) ∷ (codes "silver", rgb 192 192 192) ∷ (codes "gray", rgb 128 128 128)
    ∷ (codes "white", rgb 255 255 255) ∷ (codes "maroon", rgb 128 0 0) ∷ (codes "red", rgb 255 0 0)
    ∷ (codes "purple", rgb 128 0 128) ∷ (codes "fuchsia", rgb 255 0 255)
    ∷ (codes "green", rgb 0 128 0) ∷ (codes "lime", rgb 0 255 0) ∷ (codes "olive", rgb 128 128 0)
    ∷ (codes "yellow", rgb 255 255 0) ∷ (codes "navy", rgb 0 0 128) ∷ (codes "blue", rgb 0 0 255)
    ∷ (codes "teal", rgb 0 128 128) ∷ (codes "aqua", rgb 0 255 255) ∷ []

-- What a table has for a word.
abbrev pub among : List (List ℕ × Rgb) → List ℕ → Option Rgb
among [] word = None
among (entry ∷ entries) word =
    elim (bytes_eq word entry.0) [ true ↦ Some entry.1 | false ↦ among entries word ]

abbrev pub named_color : List ℕ → Option Rgb
named_color word = among color_names word

-- The value of a hexadecimal digit, of either case.
abbrev pub hex_value : ℕ → Option ℕ
hex_value d =
    if nat_le 48 d && nat_le d 57 then Some (d - 48) else
    (if nat_le 65 d && nat_le d 70 then Some (d - 65 + 10) else
    (if nat_le 97 d && nat_le d 102 then Some (d - 97 + 10) else None))

-- The byte of two digits.
abbrev pub byte_of_digits : (high low : ℕ) → Option ℕ
byte_of_digits high low =
    option_and_then (λ a. option_map (λ b. 16 * a + b) (hex_value low)) (hex_value high)

-- The colour of the six digits after the first character.
abbrev pub six_digits : List ℕ → Option Rgb
six_digits word =
    option_and_then (λ red. option_and_then (λ green. option_map (λ blue. rgb red green blue)
    (byte_of_digits (get_or word 5 0) (get_or word 6 0)))
    (byte_of_digits (get_or word 3 0) (get_or word 4 0)))
    (byte_of_digits (get_or word 1 0) (get_or word 2 0))

-- A colour by a number sign and six digits (4.2.1, "RGB color values").
abbrev pub digits_color : List ℕ → Option Rgb
digits_color word =
    if (length word == 7) && (get_or word 0 0 == 35) then six_digits word else None

-- The colour of a word.
abbrev pub word_color : List ℕ → Option Rgb
word_color word = elim (named_color word) [ Some color ↦ Some color | None ↦ digits_color word ]

-- The ground of a word.
abbrev pub ground_word : List ℕ → Option Ground
ground_word word =
    if bytes_eq word (codes "transparent") then Some Transparent else
    option_map (λ color. Color color) (word_color word)
