-- Check digits, pairs of check characters and check digits of bank accounts.
use Rattle.std.specs.Prelude.{ℕ, ◌+◌, ◌-◌, ◌*◌, ◌/◌, ◌%◌, ◌==◌, ◌&&◌, not}
use Rattle.std.specs.Prelude.{if◌then◌else◌, List, [], ◌∷◌, length, take, drop, slice_index}
use Rattle.std.specs.Prelude.{Option}
use Rattle.std.specs.Option.{option_or}
use Rattle.gs1.specs.Identifiers.{weighted_sum, with_last}
use Rattle.gs1_base.specs.Characters.{is_within, is_decimal_digit}
use Rattle.gs1.specs.Identifiers.{has_right_check_digit, IsRightDigit}
use Rattle.gs1.specs.Checks.{fault_if, is_digit_at, key_fault, letters_fault}
use Rattle.std.specs.List.{list_all}
use Rattle.gs1.specs.declared.reason.Reason.TheVariants.{WrongCheckDigit, WrongCheckPair, WrongIban}
use Rattle.gs1.specs.declared.reason.Reason.TheVariants.{WrongCharacter}
use Rattle.gs1.specs.declared.reason.Fault.{Fault}

-- ---- The check digit

-- The check digit of a value, from 0 to 9, whatever its last digit is.
abbrev pub right_digit : List ℕ → ℕ
right_digit value = (10 - weighted_sum (with_last value 0x30) % 10) % 10

-- The check digit that a refusal names is right in the last place of the value, and no other is.
abbrev pub HaveRightDigits : Type 0
HaveRightDigits = (value : List ℕ) → IsRightDigit value (0x30 + right_digit value)

abbrev pub check_digit_fault : ℕ → List ℕ → Option Fault
check_digit_fault place value =
    fault_if (not (has_right_check_digit value)) (place + (length value - 1))
    (WrongCheckDigit (right_digit value))

-- ---- The pair of check characters (GS1 General Specifications, "Check character pair calculation
-- for GMN")

-- The weights, from the right.
abbrev pub primes : List ℕ
primes =
    2 ∷ 3 ∷ 5 ∷ 7 ∷ 11 ∷ 13 ∷ 17 ∷ 19 ∷ 23 ∷ 29 ∷ 31 ∷ 37 ∷ 41 ∷ 43 ∷ 47 ∷ 53 ∷ 59 ∷ 61 ∷ 67 ∷
    71 ∷ 73 ∷ 79 ∷ 83 ∷ []

-- The characters of a pair, 2 to 9 and A to Z without I and O.
abbrev pub pair_characters : List ℕ
pair_characters =
    0x32 ∷ 0x33 ∷ 0x34 ∷ 0x35 ∷ 0x36 ∷ 0x37 ∷ 0x38 ∷ 0x39 ∷ 0x41 ∷ 0x42 ∷ 0x43 ∷ 0x44 ∷ 0x45 ∷
    0x46 ∷ 0x47 ∷ 0x48 ∷ 0x4a ∷ 0x4b ∷ 0x4c ∷ 0x4d ∷ 0x4e ∷ 0x50 ∷ 0x51 ∷ 0x52 ∷ 0x53 ∷ 0x54 ∷
    0x55 ∷ 0x56 ∷ 0x57 ∷ 0x58 ∷ 0x59 ∷ 0x5a ∷ []

-- The place of a character among the 82.
abbrev pub character_value : ℕ → ℕ
character_value c =
    if is_within 0x21 0x22 c then c - 0x21
    else (if is_within 0x25 0x3f c then c - 0x23
    else (if is_within 0x41 0x5a c then c - 0x24
    else (if c == 0x5f then 55 else c - 0x29)))

abbrev pub pair_sum : List ℕ → ℕ
pair_sum [] = 0
pair_sum (c ∷ rest) = slice_index primes (length rest) * character_value c + pair_sum rest

-- The pair of a value, whatever its last two characters are.
abbrev pub first_of_pair : List ℕ → ℕ
first_of_pair value =
    slice_index pair_characters (pair_sum (take (length value - 2) value) % 1021 / 32)

abbrev pub second_of_pair : List ℕ → ℕ
second_of_pair value =
    slice_index pair_characters (pair_sum (take (length value - 2) value) % 1021 % 32)

abbrev pub pair_fault : ℕ → List ℕ → Option Fault
pair_fault place value =
    fault_if (not ((slice_index value (length value - 2) == first_of_pair value)
    && (slice_index value (length value - 1) == second_of_pair value)))
    (place + (length value - 2)) (WrongCheckPair (first_of_pair value) (second_of_pair value))

-- Of digits alone the last one is wrong.
abbrev pub digits_alone_fault : ℕ → List ℕ → Option Fault
digits_alone_fault place value =
    fault_if (list_all is_decimal_digit value) (place + (length value - 1))
    (WrongCharacter (slice_index value (length value - 1)))

-- A model number begins with a GS1 Company Prefix, ends with its pair and has a character that is
-- no digit.
abbrev pub model_fault : ℕ → List ℕ → Option Fault
model_fault place value =
    option_or (key_fault place value)
    (option_or (pair_fault place value) (digits_alone_fault place value))

-- ---- International Bank Account Numbers (ISO 13616)

-- The remainder modulo 97 of a number with one character more; letters count from 10.
abbrev pub remainder_more : ℕ → ℕ → ℕ
remainder_more rest c =
    if is_decimal_digit c then (10 * rest + (c - 0x30)) % 97 else (100 * rest + (c - 0x37)) % 97

abbrev pub remainder : ℕ → List ℕ → ℕ
remainder rest [] = rest
remainder rest (c ∷ characters) = remainder (remainder_more rest c) characters

-- With the first four characters at the end, the remainder is 1.
abbrev pub iban_fault : ℕ → List ℕ → Option Fault
iban_fault place value =
    option_or (letters_fault place value)
    (option_or (fault_if (not (is_digit_at value 2 && is_digit_at value 3)) (place + 2) WrongIban)
    (fault_if (not (remainder (remainder 0 (drop 4 value)) (take 4 value) == 1)) (place + 2)
    WrongIban))
