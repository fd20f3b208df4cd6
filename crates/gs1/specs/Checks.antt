-- What components have to satisfy beside their characters and their length, each with its fault and
-- the place of this (GS1 General Specifications, "GS1 Application Identifier definitions").
use Rattle.std.specs.Prelude.{ℕ, ◌+◌, ◌-◌, ◌*◌, ◌%◌, Bool, ◌==◌, ◌&&◌, ◌||◌, not}
use Rattle.std.specs.Prelude.{nat_le, nat_lt, if◌then◌else◌, List, [], ◌∷◌, length, drop}
use Rattle.std.specs.Prelude.{slice_index, Option, None, Some}
use Rattle.std.specs.List.{list_all, position_or_len}
use Rattle.std.specs.Option.{option_or}
use Rattle.gs1_base.specs.Characters.{is_within, is_decimal_digit, is_hexadecimal}
use Rattle.gs1.specs.Codes.{is_country, is_country_letters, is_currency}
use Rattle.gs1.specs.declared.reason.Reason.{Reason}
use Rattle.gs1.specs.declared.reason.Reason.TheVariants.{NoCompanyPrefix, WrongMonth, WrongDay}
use Rattle.gs1.specs.declared.reason.Reason.TheVariants.{WrongHour, WrongMinute, WrongSecond}
use Rattle.gs1.specs.declared.reason.Reason.TheVariants.{WrongCountry, WrongCurrency, WrongFlag}
use Rattle.gs1.specs.declared.reason.Reason.TheVariants.{WrongPiece, WrongWinding, NoZero}
use Rattle.gs1.specs.declared.reason.Reason.TheVariants.{OnlyZeros, LeadingZero, WrongEscape}
use Rattle.gs1.specs.declared.reason.Reason.TheVariants.{NoMinus, WrongMedia, WrongSex}
use Rattle.gs1.specs.declared.reason.Reason.TheVariants.{WrongSequence, WrongImporter, WrongCharacter}
use Rattle.gs1.specs.declared.reason.Fault.{Fault}

-- The fault, if this is wrong.
abbrev pub fault_if : Bool → ℕ → Reason → Option Fault
fault_if wrong place reason =
    if wrong then Some (record { place = place; reason = reason }) else None

-- The digit at a place, and the numbers that two and three digits write.
abbrev pub decimal_at : List ℕ → ℕ → ℕ
decimal_at piece place = slice_index piece place - 0x30

abbrev pub two_digits : List ℕ → ℕ → ℕ
two_digits piece place = 10 * decimal_at piece place + decimal_at piece (place + 1)

abbrev pub three_digits : List ℕ → ℕ
three_digits piece = 10 * two_digits piece 0 + decimal_at piece 2

abbrev pub is_digit_at : List ℕ → ℕ → Bool
is_digit_at piece place = is_decimal_digit (slice_index piece place)

-- ---- Dates and times

-- How many days a month has.
abbrev pub days_of : Bool → ℕ → ℕ
days_of leap month =
    if month == 2 then (if leap then 29 else 28)
    else (if (month == 4) || (month == 6) || (month == 9) || (month == 11) then 30 else 31)

-- A month at this place, and a day behind it.
abbrev pub month_day_fault : Bool → ℕ → ℕ → ℕ → ℕ → Option Fault
month_day_fault leap first_day place month day =
    option_or (fault_if (nat_lt month 1 || nat_lt 12 month) place WrongMonth)
    (fault_if (nat_lt day first_day || nat_lt (days_of leap month) day) (place + 2) WrongDay)

-- A date YYMMDD; of the years that two digits can mean, 00 is 2000.
abbrev pub date_fault : ℕ → ℕ → List ℕ → Option Fault
date_fault first_day place piece =
    month_day_fault (two_digits piece 0 % 4 == 0) first_day (place + 2) (two_digits piece 2)
    (two_digits piece 4)

abbrev pub is_leap : ℕ → Bool
is_leap year = (year % 4 == 0) && not (year % 100 == 0) || (year % 400 == 0)

-- A date YYYYMMDD.
abbrev pub long_date_fault : ℕ → List ℕ → Option Fault
long_date_fault place piece =
    month_day_fault (is_leap (100 * two_digits piece 0 + two_digits piece 2)) 1 (place + 4)
    (two_digits piece 4) (two_digits piece 6)

abbrev pub hour_fault : ℕ → List ℕ → Option Fault
hour_fault place piece = fault_if (nat_lt 23 (two_digits piece 0)) place WrongHour

abbrev pub minute_fault : ℕ → List ℕ → Option Fault
minute_fault place piece = fault_if (nat_lt 59 (two_digits piece 0)) place WrongMinute

abbrev pub second_fault : ℕ → List ℕ → Option Fault
second_fault place piece = fault_if (nat_lt 59 (two_digits piece 0)) place WrongSecond

abbrev pub hour_minute_fault : ℕ → List ℕ → Option Fault
hour_minute_fault place piece =
    option_or (hour_fault place piece)
    (fault_if (nat_lt 59 (two_digits piece 2)) (place + 2) WrongMinute)

-- ---- Codes

abbrev pub country_fault : ℕ → List ℕ → Option Fault
country_fault place piece = fault_if (not (is_country (three_digits piece))) place WrongCountry

abbrev pub country_or_any_fault : ℕ → List ℕ → Option Fault
country_or_any_fault place piece =
    if three_digits piece == 999 then None else country_fault place piece

abbrev pub letters_fault : ℕ → List ℕ → Option Fault
letters_fault place piece =
    fault_if (not (is_country_letters (256 * slice_index piece 0 + slice_index piece 1))) place
    WrongCountry

abbrev pub currency_fault : ℕ → List ℕ → Option Fault
currency_fault place piece = fault_if (not (is_currency (three_digits piece))) place WrongCurrency

-- 0 or 1.
abbrev pub flag_fault : ℕ → List ℕ → Option Fault
flag_fault place piece = fault_if (nat_lt 1 (decimal_at piece 0)) place WrongFlag

-- 01 to 10, or 80 to 99.
abbrev pub media_fault : ℕ → List ℕ → Option Fault
media_fault place piece =
    let media = two_digits piece 0 in
    fault_if (nat_lt media 1 || nat_lt 10 media && nat_lt media 80) place WrongMedia

-- 0, 1, 2 or 9 (ISO 5218).
abbrev pub sex_fault : ℕ → List ℕ → Option Fault
sex_fault place piece =
    fault_if (nat_lt 2 (decimal_at piece 0) && not (decimal_at piece 0 == 9)) place WrongSex

-- 0, 1 or 9.
abbrev pub winding_fault : ℕ → List ℕ → Option Fault
winding_fault place piece =
    fault_if (nat_lt 1 (decimal_at piece 0) && not (decimal_at piece 0 == 9)) place WrongWinding

-- ---- Numbers

-- A piece from 01 to the total.
abbrev pub piece_count_fault : ℕ → List ℕ → Option Fault
piece_count_fault place piece =
    option_or (fault_if (two_digits piece 0 == 0) place WrongPiece)
    (fault_if (nat_lt (two_digits piece 2) (two_digits piece 0)) (place + 2) WrongPiece)

-- The digits 1 to 9 with a slash between them, the first at most the second.
abbrev pub sequence_fault : ℕ → List ℕ → Option Fault
sequence_fault place piece =
    fault_if (not (is_digit_at piece 0 && is_digit_at piece 2 && (slice_index piece 1 == 0x2f)
    && (nat_le 1 (decimal_at piece 0) && nat_le (decimal_at piece 0) (decimal_at piece 2)))) place
    WrongSequence

abbrev pub are_zeros : List ℕ → Bool
are_zeros piece = list_all (λ c. c == 0x30) piece

abbrev pub zero_fault : ℕ → List ℕ → Option Fault
zero_fault place piece = fault_if (not (are_zeros piece)) place NoZero

abbrev pub nonzero_fault : ℕ → List ℕ → Option Fault
nonzero_fault place piece = fault_if (are_zeros piece) place OnlyZeros

abbrev pub leading_zero_fault : ℕ → List ℕ → Option Fault
leading_zero_fault place piece =
    fault_if ((slice_index piece 0 == 0x30) && nat_lt 1 (length piece)) place LeadingZero

-- A coordinate of ten digits, at most these two digits and eight zeros.
abbrev pub coordinate_fault : ℕ → Reason → ℕ → List ℕ → Option Fault
coordinate_fault most reason place piece =
    fault_if (nat_lt most (two_digits piece 0)
    || (two_digits piece 0 == most) && not (are_zeros (drop 2 piece))) place reason

-- ---- Characters

abbrev pub minus_fault : ℕ → List ℕ → Option Fault
minus_fault place piece = fault_if (not (slice_index piece 0 == 0x2d)) place NoMinus

abbrev pub is_importer : ℕ → Bool
is_importer c =
    (c == 0x2d) || is_decimal_digit c || is_within 0x41 0x5a c || (c == 0x5f)
    || is_within 0x61 0x7a c

abbrev pub importer_fault : ℕ → List ℕ → Option Fault
importer_fault place piece =
    fault_if (not (is_importer (slice_index piece 0))) place WrongImporter

-- A key begins with a GS1 Company Prefix, which has at least four digits.
abbrev pub key_fault : ℕ → List ℕ → Option Fault
key_fault place piece =
    option_or (fault_if (not (is_digit_at piece 0)) place NoCompanyPrefix)
    (option_or (fault_if (not (is_digit_at piece 1)) (place + 1) NoCompanyPrefix)
    (option_or (fault_if (not (is_digit_at piece 2)) (place + 2) NoCompanyPrefix)
    (fault_if (not (is_digit_at piece 3)) (place + 3) NoCompanyPrefix)))

-- A percent sign without two hexadecimal digits behind it.
abbrev pub is_wrong_escape : List ℕ → Bool
is_wrong_escape rest =
    (slice_index rest 0 == 0x25)
    && not (is_hexadecimal (slice_index rest 1) && is_hexadecimal (slice_index rest 2))

-- The first such percent sign (RFC 3986, section 2.1).
abbrev pub escapes_fault : ℕ → List ℕ → Option Fault
escapes_fault place [] = None
escapes_fault place (c ∷ rest) =
    option_or (fault_if (is_wrong_escape (c ∷ rest)) place WrongEscape)
    (escapes_fault (place + 1) rest)

-- What stands from the first equals sign on.
abbrev pub padding_of : List ℕ → List ℕ
padding_of piece = drop (position_or_len (λ c. c == 0x3d) piece) piece

-- Equals signs fill up the last group of four characters, of which two at least are others: they
-- are at most two, and stand at the end (RFC 4648, sections 4 and 5).
abbrev pub padding_fault : ℕ → List ℕ → Option Fault
padding_fault place piece =
    fault_if (nat_lt 2 (length (padding_of piece))
    || not (list_all (λ c. c == 0x3d) (padding_of piece)))
    (place + position_or_len (λ c. c == 0x3d) piece) (WrongCharacter 0x3d)
