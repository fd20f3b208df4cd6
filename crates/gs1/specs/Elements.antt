-- Elements, the bracketed form in which people write them, and the first fault of a text in it.
-- Texts are lists of bytes.
use Rattle.std.specs.Prelude.{◌≡◌, ℕ, ◌+◌, Bool, ◌==◌, ◌&&◌, not, nat_lt, if◌then◌else◌, List, [], ◌∷◌, ◌++◌}
use Rattle.std.specs.Prelude.{length, drop, map, position, slice_index, Option, None, Some, unwrap_or, is_some}
use Rattle.std.specs.List.{slice_split, before_first, after_first, flat_map, list_all}
use Rattle.std.specs.Option.{option_or, option_map}
use Rattle.gs1.specs.Identifiers.{is_encodable, identifier_length}
use Rattle.gs1_base.specs.Characters.{is_within, is_decimal_digit}
use Rattle.gs1.specs.Identifiers.{predefined_length, has_check_digit, has_right_check_digit}
use Rattle.gs1.specs.declared.error.Gs1Error.{Gs1Error}
use Rattle.gs1.specs.declared.error.Gs1Error.TheVariants.{NoElements, InvalidIdentifier, UnknownIdentifier}
use Rattle.gs1.specs.declared.error.Gs1Error.TheVariants.{EmptyValue, ValueTooLong, InvalidCharacter}
use Rattle.gs1.specs.declared.error.Gs1Error.TheVariants.{WrongLength, WrongCheckDigit, OutOfMemory}

-- ---- The bracketed form

-- An element: its identifier and its value.
pub record Element : Type 0 where
  pub identifier : List ℕ
  pub value : List ℕ

abbrev pub is_opening : ℕ → Bool
is_opening c = c == 0x28

abbrev pub is_closing : ℕ → Bool
is_closing c = c == 0x29

-- The element that is written between two opening brackets: the identifier goes up to the first
-- closing bracket, and the value is the rest.
abbrev pub element_of : List ℕ → Element
element_of part = record {
  identifier = before_first is_closing part;
  value = after_first is_closing part;
}

-- The elements that are written behind a first opening bracket. Each such bracket begins the next.
unfoldable pub elements_behind : List ℕ → List Element
elements_behind text = map element_of (slice_split is_opening text)

-- The elements that a text writes, such as `(01)09506000134352(10)ABC`. Example: `(10)A(21)7`
-- writes 10 with A, and 21 with 7.
abbrev pub written_elements : List ℕ → List Element
written_elements text = elements_behind (drop 1 text)

-- The text that writes elements.
abbrev pub bracketed : List Element → List ℕ
bracketed elements = flat_map (λ e. 0x28 ∷ e.identifier ++ 0x29 ∷ e.value) elements

-- ---- The faults

-- The greatest length of a value.
abbrev pub longest_value : ℕ
longest_value = 90

-- A character of a value: a digit if the length is predefined, else one of the 82 or `#`.
abbrev pub is_value_character : Bool → ℕ → Bool
is_value_character is_digits c =
    if is_digits then is_decimal_digit c else is_encodable c

-- An identifier has two to four digits.
abbrev pub is_identifier : List ℕ → Bool
is_identifier identifier =
    is_within 2 4 (length identifier) && list_all is_decimal_digit identifier

-- They are as many as those with its first two digits have.
unfoldable pub identifier_fault : ℕ → List ℕ → Option Gs1Error
identifier_fault number identifier =
    if is_identifier identifier
    then (if unwrap_or (identifier_length identifier) 0 == length identifier then None
    else Some (UnknownIdentifier number))
    else Some (InvalidIdentifier number)

-- A value has one to ninety characters.
unfoldable pub length_fault : ℕ → List ℕ → Option Gs1Error
length_fault number value =
    if length value == 0 then Some (EmptyValue number)
    else (if nat_lt longest_value (length value) then Some (ValueTooLong number) else None)

-- The first character that the value may not have, with its place in the value.
unfoldable pub character_fault : ℕ → List ℕ → List ℕ → Option Gs1Error
character_fault number identifier value =
    let is_digits = is_some (predefined_length identifier) in
    option_map (λ place. InvalidCharacter number place (slice_index value place))
    (position (λ c. not (is_value_character is_digits c)) value)

-- An element has its predefined length, and the right check digit if it has one.
unfoldable pub digits_fault : ℕ → List ℕ → List ℕ → Option Gs1Error
digits_fault number identifier value =
    let size = length identifier + length value in
    if unwrap_or (predefined_length identifier) size == size
    then (if has_check_digit identifier && not (has_right_check_digit value)
    then Some (WrongCheckDigit number) else None)
    else Some (WrongLength number)

-- The first fault of the element of this number.
unfoldable pub fault_of : ℕ → Element → Option Gs1Error
fault_of number e =
    option_or (identifier_fault number e.identifier)
    (option_or (length_fault number e.value)
    (option_or (character_fault number e.identifier e.value)
    (digits_fault number e.identifier e.value)))

-- The fault of the first element that has one; the elements are counted from `number`.
abbrev pub first_fault : ℕ → List Element → Option Gs1Error
first_fault number [] = None
first_fault number (e ∷ elements) =
    option_or (fault_of number e) (first_fault (number + 1) elements)

-- The first fault of a text: it begins with no opening bracket, or an element has a fault.
abbrev pub text_fault : List ℕ → Option Gs1Error
text_fault text =
    if is_opening (slice_index text 0) then first_fault 0 (written_elements text)
    else Some NoElements

-- When each error is returned: out of memory only where the text has no fault.
abbrev pub IsRefusedText : List ℕ → Gs1Error → Type 0
IsRefusedText text OutOfMemory = text_fault text ≡ None
IsRefusedText text fault = text_fault text ≡ Some fault
