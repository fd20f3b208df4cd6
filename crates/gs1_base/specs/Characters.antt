-- Ranges of numbers, and characters of ASCII. Bytes are numbers.
use Rattle.std.specs.Prelude.{ℕ, Bool, ◌&&◌, ◌||◌, nat_le}

-- A number is in a range.
abbrev pub is_within : ℕ → ℕ → ℕ → Bool
is_within low high n = nat_le low n && nat_le n high

-- The digits 0 to 9.
abbrev pub is_decimal_digit : ℕ → Bool
is_decimal_digit c = is_within 0x30 0x39 c

-- The hexadecimal digits, whose letters may be small.
abbrev pub is_hexadecimal : ℕ → Bool
is_hexadecimal c = is_decimal_digit c || is_within 0x41 0x46 c || is_within 0x61 0x66 c
