-- Values of options as words: numbers, sizes in millimetres, positions and flags.
use Rattle.std.specs.Prelude.{ℕ, ◌-◌, ◌+◌, ◌*◌, ◌^◌, nat_lt, nat_le, ◌==◌, Bool, true, false, ◌&&◌}
use Rattle.std.specs.Prelude.{if◌then◌else◌, bytes_eq, codes, option_map, option_and_then}
use Rattle.std.specs.Prelude.{List, [], ◌∷◌, length, Option, None, Some}
use Rattle.std.specs.List.{list_all, position_or_len, before_first, after_first}
use Rattle.std.specs.Char.{digit_value}
use Rattle.std.specs.Str.Parse.{digits_value, without_leading_plus}

-- There are decimal digits and nothing else, and 64 bits hold their number.
abbrev pub are_digits : List ℕ → Bool
are_digits word =
    nat_lt 0 (length word) && list_all (λ c. nat_lt (digit_value c) 10) word
    && nat_lt (digits_value 10 word) (2 ^ 64)

-- The number of decimal digits, if a word has nothing else.
abbrev pub digits_number : List ℕ → Option ℕ
digits_number word = if are_digits word then Some (digits_value 10 word) else None

-- The number that decimal digits write, with or without a plus sign before them.
unfoldable pub word_number : List ℕ → Option ℕ
word_number word = digits_number (without_leading_plus word)

-- The value of a decimal digit.
abbrev pub decimal_digit : ℕ → Option ℕ
decimal_digit c = if nat_le 48 c && nat_le c 57 then Some (c - 48) else None

-- The tenths of one digit after a decimal point.
abbrev pub fraction_tenths : List ℕ → Option ℕ
fraction_tenths (tenths ∷ []) = decimal_digit tenths
fraction_tenths _ = None

-- The thousandths of one to three digits after a decimal point.
abbrev pub fraction_thousandths : List ℕ → Option ℕ
fraction_thousandths (tenths ∷ []) = option_map (λ n. 100 * n) (decimal_digit tenths)
fraction_thousandths (tenths ∷ hundredths ∷ []) =
    option_and_then (λ n. option_map (λ m. 100 * n + 10 * m) (decimal_digit hundredths))
    (decimal_digit tenths)
fraction_thousandths (tenths ∷ hundredths ∷ rest ∷ []) =
    option_and_then (λ n. option_and_then (λ m. option_map (λ k. 100 * n + 10 * m + k)
    (decimal_digit rest)) (decimal_digit hundredths)) (decimal_digit tenths)
fraction_thousandths _ = None

-- The parts of a unit in a number up to 10,000, and more such parts.
abbrev pub with_fraction : (parts : ℕ) → Option ℕ → Option ℕ → Option ℕ
with_fraction parts (Some whole) (Some more) =
    if nat_le whole 10000 && nat_lt more parts then Some (parts * whole + more) else None
with_fraction parts _ _ = None

-- What stands before and after the first byte of this value, if there is one.
abbrev pub around_first : ℕ → List ℕ → Option (List ℕ × List ℕ)
around_first c word =
    if position_or_len (λ b. b == c) word == length word then None
    else Some (before_first (λ b. b == c) word, after_first (λ b. b == c) word)

-- The thousandths that a decimal number writes: a number, and perhaps a point with one to three
-- digits after it.
abbrev pub word_thousandths : List ℕ → Option ℕ
word_thousandths word =
    elim (around_first 46 word) [
      | Some around ↦ with_fraction 1000 (word_number around.0) (fraction_thousandths around.1)
      | None ↦ with_fraction 1000 (word_number word) (Some 0)
    ]

-- The tenths that a decimal number writes: a number, and perhaps a point with one digit after it.
abbrev pub word_tenths : List ℕ → Option ℕ
word_tenths word =
    elim (around_first 46 word) [
      | Some around ↦ with_fraction 10 (word_number around.0) (fraction_tenths around.1)
      | None ↦ with_fraction 10 (word_number word) (Some 0)
    ]

-- The two numbers of `X,Y`.
abbrev pub word_position : List ℕ → Option (ℕ × ℕ)
word_position word =
    option_and_then (λ parts. option_and_then (λ x. option_map (λ y. (x, y))
    (word_number parts.1)) (word_number parts.0)) (around_first 44 word)

-- The value of a flag.
abbrev pub word_flag : List ℕ → Option Bool
word_flag word =
    if bytes_eq word (codes "true") then Some true else
    (if bytes_eq word (codes "false") then Some false else None)
