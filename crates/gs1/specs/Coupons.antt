-- Coupon codes of North America: how their digits are cut into fields, and which digits these have
-- (GS1 General Specifications, "Coupon code identification for use in North America: AI (8110)" and
-- "Positive offer file: AI (8112)").
use Rattle.std.specs.Prelude.{ℕ, ◌+◌, ◌-◌, Bool, true, ◌==◌, ◌&&◌, ◌||◌, not, nat_lt}
use Rattle.std.specs.Prelude.{if◌then◌else◌, List, [], ◌∷◌, length, drop, slice_index, slice_get}
use Rattle.std.specs.Prelude.{Option, None, Some}
use Rattle.std.specs.Option.{option_or, option_map_or}
use Rattle.gs1.specs.Checks.{fault_if, decimal_at, date_fault}
use Rattle.gs1.specs.declared.coupons.Field.{Field}
use Rattle.gs1.specs.declared.coupons.Field.TheVariants.{Digits, AtMost, AtMostOrNine, SaveValue}
use Rattle.gs1.specs.declared.coupons.Field.TheVariants.{Date, Counted, Company}
use Rattle.gs1.specs.declared.reason.Reason.TheVariants.{WrongCharacter, TooShort, TooLong}
use Rattle.gs1.specs.declared.reason.Fault.{Fault}

-- Of a coupon code: the company, the offer, the save value, what is to be bought, in which unit, and
-- the family. Of an offer: its format, the funder, the offer and the serial number.
unfoldable pub first_fields : Bool → List Field
first_fields is_coupon =
    if is_coupon
    then Counted 6 0 6 ∷ Digits 6 ∷ Counted 0 1 5 ∷ Counted 0 1 5 ∷ AtMostOrNine 5 ∷ Digits 3 ∷ []
    else AtMost 1 ∷ Counted 6 0 6 ∷ Digits 6 ∷ Counted 6 0 9 ∷ []

-- What may follow: a second and a third purchase, the last and the first day, the serial number, the
-- retailer, and how the value is saved.
unfoldable pub group_of : ℕ → List Field
group_of digit =
    if digit == 1
    then AtMost 3 ∷ Counted 0 1 5 ∷ AtMostOrNine 4 ∷ Digits 3 ∷ Company ∷ []
    else (if digit == 2 then Counted 0 1 5 ∷ AtMostOrNine 4 ∷ Digits 3 ∷ Company ∷ []
    else (if (digit == 3) || (digit == 4) then Date ∷ []
    else (if digit == 5 then Counted 6 0 9 ∷ []
    else (if digit == 6 then Counted 6 1 7 ∷ []
    else (if digit == 9 then SaveValue ∷ AtMost 2 ∷ Digits 1 ∷ AtMost 1 ∷ []
    else [])))))

-- The first digit of what is left is wrong.
abbrev pub wrong_digit : Bool → ℕ → List ℕ → Option Fault
wrong_digit wrong place rest = fault_if wrong place (WrongCharacter (slice_index rest 0))

-- The fault of a field whose first digit is the first of what is left.
abbrev pub field_fault : Field → ℕ → List ℕ → Option Fault
field_fault (Digits count) place rest = None
field_fault (AtMost greatest) place rest =
    wrong_digit (nat_lt greatest (decimal_at rest 0)) place rest
field_fault (AtMostOrNine greatest) place rest =
    wrong_digit (nat_lt greatest (decimal_at rest 0) && not (decimal_at rest 0 == 9)) place rest
field_fault SaveValue place rest =
    wrong_digit (nat_lt 2 (decimal_at rest 0) && not (decimal_at rest 0 == 5)
    && not (decimal_at rest 0 == 6)) place rest
field_fault Date place rest = if nat_lt (length rest) 6 then None else date_fault 0 place rest
field_fault (Counted more least greatest) place rest =
    wrong_digit (nat_lt (decimal_at rest 0) least || nat_lt greatest (decimal_at rest 0)) place rest
field_fault Company place rest =
    wrong_digit (nat_lt 6 (decimal_at rest 0) && not (decimal_at rest 0 == 9)) place rest

-- How many digits of a field follow its first.
abbrev pub more_digits : Field → ℕ → ℕ
more_digits (Digits count) digit = count - 1
more_digits (AtMost greatest) digit = 0
more_digits (AtMostOrNine greatest) digit = 0
more_digits SaveValue digit = 0
more_digits Date digit = 5
more_digits (Counted more least greatest) digit = more + digit
more_digits Company digit = if digit == 9 then 0 else 6 + digit

-- Nothing follows an offer.
abbrev pub group_fault : Bool → ℕ → List ℕ → Option Fault
group_fault is_coupon place rest =
    if is_coupon then wrong_digit (length (group_of (decimal_at rest 0)) == 0) place rest
    else fault_if true place TooLong

-- The fault of the first digit of what is left. Before it `left` digits of a field are left, and
-- these fields come after this one.
abbrev pub first_fault : Bool → Option Field → ℕ → List ℕ → Option Fault
first_fault is_coupon None place rest = group_fault is_coupon place rest
first_fault is_coupon (Some field) place rest = field_fault field place rest

abbrev pub step_fault : Bool → List Field → ℕ → ℕ → List ℕ → Option Fault
step_fault is_coupon fields left place rest =
    if nat_lt 0 left then None else first_fault is_coupon (slice_get fields 0) place rest

-- The fields after it, and how many digits of one are left.
abbrev pub fields_after : List Field → ℕ → ℕ → List Field
fields_after fields left digit =
    if nat_lt 0 left then fields
    else (if length fields == 0 then group_of digit else drop 1 fields)

abbrev pub left_after : List Field → ℕ → ℕ → ℕ
left_after fields left digit =
    if nat_lt 0 left then left - 1
    else option_map_or (λ field. more_digits field digit) (slice_get fields 0) 0

-- The first fault of a coupon code from a place on.
abbrev pub coupon_fault : Bool → List Field → ℕ → ℕ → List ℕ → Option Fault
coupon_fault is_coupon fields left place [] =
    fault_if (nat_lt 0 left || not (length fields == 0)) place TooShort
coupon_fault is_coupon fields left place (c ∷ rest) =
    option_or (step_fault is_coupon fields left place (c ∷ rest))
    (coupon_fault is_coupon (fields_after fields left (c - 0x30)) (left_after fields left (c - 0x30))
    (place + 1) rest)
