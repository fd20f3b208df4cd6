-- Values by the table: the first fault of a value, of an element and of elements, and when a text
-- is refused.
use Rattle.std.specs.Prelude.{◌≡◌, ℕ, ◌+◌, ◌*◌, Bool, ◌==◌, ◌&&◌, ◌||◌, not, nat_lt}
use Rattle.std.specs.Prelude.{if◌then◌else◌, List, [], ◌∷◌, length, take, drop, position}
use Rattle.std.specs.Prelude.{slice_index, Option, None, Some, unwrap_or}
use Rattle.std.specs.Option.{option_or, option_map}
use Rattle.gs1.specs.Identifiers.{is_of_82, identifier_length}
use Rattle.gs1_base.specs.Characters.{is_within, is_decimal_digit}
use Rattle.gs1.specs.Checks.{fault_if, two_digits, decimal_at, date_fault, long_date_fault, hour_fault}
use Rattle.gs1.specs.Checks.{hour_minute_fault, minute_fault, second_fault, country_fault}
use Rattle.gs1.specs.Checks.{country_or_any_fault, letters_fault, currency_fault, flag_fault}
use Rattle.gs1.specs.Checks.{piece_count_fault, winding_fault, zero_fault, nonzero_fault}
use Rattle.gs1.specs.Checks.{leading_zero_fault, escapes_fault, padding_fault, coordinate_fault}
use Rattle.gs1.specs.Checks.{minus_fault, media_fault, sex_fault, sequence_fault, importer_fault, key_fault}
use Rattle.gs1.specs.Coupons.{first_fields, coupon_fault}
use Rattle.gs1.specs.Keys.{check_digit_fault, model_fault, iban_fault}
use Rattle.gs1.specs.Table.{components, characters_of, least_of, greatest_of, check_of, is_optional}
use Rattle.gs1.specs.Elements.{Element, is_identifier, is_opening, written_elements}
use Rattle.gs1.specs.declared.reason.Reason.TheVariants.{TooShort, TooLong, WrongCharacter}
use Rattle.gs1.specs.declared.reason.Reason.TheVariants.{WrongLatitude, WrongLongitude}
use Rattle.gs1.specs.declared.reason.Fault.{Fault}
use Rattle.gs1.specs.declared.table.Characters.{Characters}
use Rattle.gs1.specs.declared.table.Characters.TheVariants.{Digits, Set82, Set39, Base64, Capitals}
use Rattle.gs1.specs.declared.table.Check.{Check}
use Rattle.gs1.specs.declared.table.Check.TheVariants.{Nothing, CheckDigit, Key, Model, Date, Day}
use Rattle.gs1.specs.declared.table.Check.TheVariants.{LongDay, Hour, HourMinute, Minute, Second}
use Rattle.gs1.specs.declared.table.Check.TheVariants.{Country, CountryOrAny, CountryLetters}
use Rattle.gs1.specs.declared.table.Check.TheVariants.{Currency, Flag, Piece, Winding, Zero}
use Rattle.gs1.specs.declared.table.Check.TheVariants.{Nonzero, NoLeadingZero, Escapes, Latitude}
use Rattle.gs1.specs.declared.table.Check.TheVariants.{Longitude, Hyphen, Media, Sex, Sequence}
use Rattle.gs1.specs.declared.table.Check.TheVariants.{Iban, Importer, Padding, Coupon}
use Rattle.gs1.specs.declared.table.Component.{Component}
use Rattle.gs1.specs.declared.refusal.CheckError.{CheckError}
use Rattle.gs1.specs.declared.refusal.CheckError.TheVariants.{NoElements, InvalidIdentifier}
use Rattle.gs1.specs.declared.refusal.CheckError.TheVariants.{UnknownIdentifier, WrongValue}
use Rattle.gs1.specs.declared.refusal.CheckError.TheVariants.{OutOfMemory}

-- ---- Values

-- Whether a component may have a character (GS1 General Specifications, "GS1 AI encodable character
-- set 82", "set 39" and "set 64").
abbrev pub is_allowed : Characters → ℕ → Bool
is_allowed Digits c = is_decimal_digit c
is_allowed Set82 c = is_of_82 c
is_allowed Set39 c =
    is_decimal_digit c || is_within 0x41 0x5a c || (c == 0x23) || (c == 0x2d) || (c == 0x2f)
is_allowed Base64 c =
    is_decimal_digit c || is_within 0x41 0x5a c || is_within 0x61 0x7a c || (c == 0x2d)
    || (c == 0x3d) || (c == 0x5f)
is_allowed Capitals c = is_decimal_digit c || is_within 0x41 0x5a c

-- The first character that a component may not have.
abbrev pub wrong_character : Characters → ℕ → List ℕ → Option Fault
wrong_character characters place piece =
    option_map (λ at. record { place = place + at; reason = WrongCharacter (slice_index piece at) })
    (position (λ c. not (is_allowed characters c)) piece)

-- The fault of a piece that has the characters and the length of its component.
abbrev pub check_fault : Check → ℕ → List ℕ → Option Fault
check_fault Nothing place piece = None
check_fault CheckDigit place piece = check_digit_fault place piece
check_fault Key place piece = key_fault place piece
check_fault Model place piece = model_fault place piece
check_fault Date place piece = date_fault 0 place piece
check_fault Day place piece = date_fault 1 place piece
check_fault LongDay place piece = long_date_fault place piece
check_fault Hour place piece = hour_fault place piece
check_fault HourMinute place piece = hour_minute_fault place piece
check_fault Minute place piece = minute_fault place piece
check_fault Second place piece = second_fault place piece
check_fault Country place piece = country_fault place piece
check_fault CountryOrAny place piece = country_or_any_fault place piece
check_fault CountryLetters place piece = letters_fault place piece
check_fault Currency place piece = currency_fault place piece
check_fault Flag place piece = flag_fault place piece
check_fault Piece place piece = piece_count_fault place piece
check_fault Winding place piece = winding_fault place piece
check_fault Zero place piece = zero_fault place piece
check_fault Nonzero place piece = nonzero_fault place piece
check_fault NoLeadingZero place piece = leading_zero_fault place piece
check_fault Escapes place piece = escapes_fault place piece
check_fault Padding place piece = padding_fault place piece
check_fault Latitude place piece = coordinate_fault 18 WrongLatitude place piece
check_fault Longitude place piece = coordinate_fault 36 WrongLongitude place piece
check_fault Hyphen place piece = minus_fault place piece
check_fault Media place piece = media_fault place piece
check_fault Sex place piece = sex_fault place piece
check_fault Sequence place piece = sequence_fault place piece
check_fault Iban place piece = iban_fault place piece
check_fault Importer place piece = importer_fault place piece
check_fault (Coupon is_coupon) place piece =
    coupon_fault is_coupon (first_fields is_coupon) 0 place piece

-- The first fault of the piece of a value that a component takes: its length, its characters, and
-- what it has to satisfy. One that may be left out may be empty.
unfoldable pub piece_fault : Component → ℕ → List ℕ → Option Fault
piece_fault component place piece =
    if is_optional component && (length piece == 0) then None
    else option_or (fault_if (nat_lt (length piece) (least_of component)) (place + length piece)
    TooShort)
    (option_or (wrong_character (characters_of component) place piece)
    (check_fault (check_of component) place piece))

-- The first fault of a value from a place on. Each component takes as much as it may have of what
-- is left.
abbrev pub value_fault : List Component → ℕ → List ℕ → Option Fault
value_fault [] place value = fault_if (nat_lt 0 (length value)) place TooLong
value_fault (component ∷ rest) place value =
    let piece = take (greatest_of component) value in
    option_or (piece_fault component place piece)
    (value_fault rest (place + length piece) (drop (greatest_of component) value))

-- ---- Elements

-- The number that the two to four digits of an identifier write.
abbrev pub number_of_identifier : List ℕ → ℕ
number_of_identifier identifier =
    if length identifier == 2 then two_digits identifier 0
    else (if length identifier == 3 then 10 * two_digits identifier 0 + decimal_at identifier 2
    else 100 * two_digits identifier 0 + two_digits identifier 2)

-- Whether an identifier of digits is assigned.
abbrev pub is_assigned : List ℕ → Bool
is_assigned identifier =
    (unwrap_or (identifier_length identifier) 0 == length identifier)
    && not (length (components (number_of_identifier identifier)) == 0)

unfoldable pub identifier_error : ℕ → List ℕ → Option CheckError
identifier_error number identifier =
    if is_identifier identifier
    then (if is_assigned identifier then None
    else Some (UnknownIdentifier number (number_of_identifier identifier)))
    else Some (InvalidIdentifier number)

-- A value has at least one character.
unfoldable pub value_error : ℕ → List ℕ → List ℕ → Option CheckError
value_error number identifier value =
    option_map (λ fault. WrongValue number (number_of_identifier identifier) fault.place fault.reason)
    (option_or (fault_if (length value == 0) 0 TooShort)
    (value_fault (components (number_of_identifier identifier)) 0 value))

-- The first fault of the element of this number.
unfoldable pub element_error : ℕ → Element → Option CheckError
element_error number e =
    option_or (identifier_error number e.identifier) (value_error number e.identifier e.value)

-- The fault of the first element that has one; the elements are counted from `number`.
abbrev pub first_error : ℕ → List Element → Option CheckError
first_error number [] = None
first_error number (e ∷ elements) =
    option_or (element_error number e) (first_error (number + 1) elements)

-- The first fault of a text: it begins with no opening bracket, or an element has a fault.
abbrev pub text_error : List ℕ → Option CheckError
text_error text =
    if is_opening (slice_index text 0) then first_error 0 (written_elements text)
    else Some NoElements

-- When each error is returned: out of memory only where the text has no fault.
abbrev pub IsRefusedByTable : List ℕ → CheckError → Type 0
IsRefusedByTable text OutOfMemory = text_error text ≡ None
IsRefusedByTable text fault = text_error text ≡ Some fault
