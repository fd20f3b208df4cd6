-- GS1 Application Identifiers: how many digits they have, which elements have a predefined length,
-- which characters and which check digit (GS1 General Specifications). Bytes are numbers.
use Rattle.std.specs.Prelude.{◌≡◌, ℕ, ◌+◌, ◌-◌, ◌*◌, ◌%◌, ◌<◌, ◌^◌, Bool, true, ◌==◌, ◌&&◌, ◌||◌}
use Rattle.std.specs.Prelude.{if◌then◌else◌, List, [], ◌∷◌, ◌++◌, length, take, slice_index}
use Rattle.std.specs.Prelude.{Option, None, Some}
use Rattle.std.specs.Option.{option_and_then}
use Rattle.std.specs.List.{list_all}
use Rattle.gs1_base.specs.Characters.{is_within, is_decimal_digit}

-- The number that the first two bytes write, if they are digits.
unfoldable pub prefix : List ℕ → Option ℕ
prefix bytes =
    if is_decimal_digit (slice_index bytes 0) && is_decimal_digit (slice_index bytes 1)
    then Some (10 * (slice_index bytes 0 - 0x30) + (slice_index bytes 1 - 0x30)) else None

-- How many digits the identifiers that begin with these two have: two, three or four (GS1 General
-- Specifications, "GS1 Application Identifiers in numerical order"). No others are assigned.
unfoldable pub identifier_length_of : ℕ → Option ℕ
identifier_length_of n =
    if is_within 0 4 n || is_within 10 13 n || is_within 15 17 n || is_within 20 22 n || (n == 30)
    || (n == 37) || is_within 90 99 n then Some 2
    else (if is_within 23 25 n || is_within 40 42 n || (n == 71) then Some 3
    else (if is_within 31 36 n || (n == 39) || (n == 43) || (n == 70) || (n == 72)
    || is_within 80 82 n then Some 4
    else None))

-- The length of the elements whose identifiers begin with these two digits, if it is predefined,
-- with the identifier (GS1 General Specifications, "Element strings with predefined length using
-- GS1 Application Identifiers").
unfoldable pub predefined_length_of : ℕ → Option ℕ
predefined_length_of n =
    if n == 0 then Some 20
    else (if is_within 1 3 n || (n == 41) then Some 16
    else (if n == 4 then Some 18
    else (if is_within 11 19 n then Some 8
    else (if n == 20 then Some 4
    else (if is_within 31 36 n then Some 10
    else None)))))

-- The length of the identifier with which the bytes begin.
abbrev pub identifier_length : List ℕ → Option ℕ
identifier_length bytes = option_and_then identifier_length_of (prefix bytes)

-- The length of the element with which the bytes begin, if it is predefined.
abbrev pub predefined_length : List ℕ → Option ℕ
predefined_length bytes = option_and_then predefined_length_of (prefix bytes)

-- Whether a byte is one of the 82 characters of most values (GS1 General Specifications, "GS1 AI
-- encodable character set 82").
abbrev pub is_of_82 : ℕ → Bool
is_of_82 c =
    is_within 0x21 0x22 c || is_within 0x25 0x3f c || is_within 0x41 0x5a c || (c == 0x5f)
    || is_within 0x61 0x7a c

-- Whether a byte is a character of values: one of the 82, or the number sign ("GS1 AI encodable
-- character set 39"). A symbol has the number sign in Byte segments alone.
abbrev pub is_encodable : ℕ → Bool
is_encodable c = is_of_82 c || (c == 0x23)

-- Whether the values of an identifier end with a check digit: those of 00, 01, 02 and 410 to 417
-- (GS1 General Specifications, "GS1 Application Identifier definitions").
unfoldable pub has_check_digit : List ℕ → Bool
has_check_digit identifier =
    ((slice_index identifier 0 == 0x30) && is_within 0x30 0x32 (slice_index identifier 1))
    || ((slice_index identifier 0 == 0x34) && (slice_index identifier 1 == 0x31)
    && is_within 0x30 0x37 (slice_index identifier 2))

-- The sum of digits with the weights 1 and 3 in turn from the right, where the last is the check
-- digit (GS1 General Specifications, "Standard check digit calculations").
abbrev pub weighted_sum : List ℕ → ℕ
weighted_sum [] = 0
weighted_sum (c ∷ digits) =
    (if length digits % 2 == 0 then 1 else 3) * (c - 0x30) + weighted_sum digits

-- The check digit makes the sum a multiple of ten.
abbrev pub has_right_check_digit : List ℕ → Bool
has_right_check_digit digits = weighted_sum digits % 10 == 0

-- A value with this digit in its last place.
abbrev pub with_last : List ℕ → ℕ → List ℕ
with_last value digit = take (length value - 1) value ++ digit ∷ []

-- Of the digits in the last place of a value, this one alone makes the check digit right.
pub record IsRightDigit (value : List ℕ) (digit : ℕ) : Type 0 where
  pub decimal : is_decimal_digit digit ≡ true
  pub right : has_right_check_digit (with_last value digit) ≡ true
  pub only : (other : ℕ) → is_decimal_digit other ≡ true →
      has_right_check_digit (with_last value other) ≡ true → other ≡ digit

-- A value that may end with a check digit: digits, at least one, and fewer than 65536.
pub record AreFewDigits (value : List ℕ) : Type 0 where
  pub some : 0 < length value
  pub few : length value < 2 ^ 16
  pub digits : list_all is_decimal_digit value ≡ true
