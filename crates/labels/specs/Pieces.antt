-- The pieces of a line on standard error.
use Rattle.std.specs.Prelude.{ℕ, ◌+◌, ◌-◌, ◌^◌, ◌==◌, min, List, [], ◌∷◌, ◌++◌, codes, flat_map}
use Rattle.std.specs.Prelude.{if◌then◌else◌, nat_le, ◌&&◌}
use Rattle.gs1_base.specs.Characters.{is_decimal_digit}

-- A line after a name: that of the program, or one that details of what the line is.
abbrev pub line_of : List ℕ → List (List ℕ) → List ℕ
line_of name pieces = name ++ (codes ": " ++ (flat_map (λ piece. piece) pieces ++ 10 ∷ []))

-- The number of an element, counted from 1, as far as 64 bits go.
abbrev pub counted_from_one : ℕ → ℕ
counted_from_one n = min (n + 1) (2 ^ 64 - 1)

-- A digit as a text; of another byte there is none.
abbrev pub digit_text : ℕ → List ℕ
digit_text byte = if is_decimal_digit byte then byte ∷ [] else []

-- A capital letter or a digit as a text; of another byte there is none.
abbrev pub letter_text : ℕ → List ℕ
letter_text byte = if nat_le 65 byte && nat_le byte 90 then byte ∷ [] else digit_text byte

-- A text, or none if a byte is 0: what stands around the identifier of an element, if it is known.
abbrev pub unless_zero : ℕ → List ℕ → List ℕ
unless_zero byte text = if byte == 0 then [] else text
