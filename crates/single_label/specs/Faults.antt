-- Which element of a GS1 text is at fault, and what would be right.
use Rattle.std.specs.Prelude.{◌≡◌, ◌⊎◌, ℕ, ⊤, List, [], ◌∷◌, if◌then◌else◌, slice_get, Option, None, Some}
use Rattle.std.specs.List.{list_all}
use Rattle.gs1.specs.Elements.{Element, written_elements}
use Rattle.gs1_base.specs.Characters.{is_decimal_digit}
use Rattle.gs1.specs.Identifiers.{IsRightDigit, AreFewDigits}
use Rattle.gs1.specs.Strings.{FindsAt, FindsNoneAt}
use Rattle.gs1.specs.declared.error.Gs1Error.{Gs1Error}
use Rattle.gs1.specs.declared.error.Gs1Error.TheVariants.{InvalidIdentifier, UnknownIdentifier}
use Rattle.gs1.specs.declared.error.Gs1Error.TheVariants.{EmptyValue, ValueTooLong, InvalidCharacter}
use Rattle.gs1.specs.declared.error.Gs1Error.TheVariants.{WrongLength, WrongCheckDigit}
use Rattle.single_label.specs.declared.stop.ElementStop.{ElementStop}

-- The number of the element at fault, counted from 0, if it is one element's.
abbrev pub element_number : Gs1Error → Option ℕ
element_number (InvalidIdentifier element) = Some element
element_number (UnknownIdentifier element) = Some element
element_number (EmptyValue element) = Some element
element_number (ValueTooLong element) = Some element
element_number (InvalidCharacter element position byte) = Some element
element_number (WrongLength element) = Some element
element_number (WrongCheckDigit element) = Some element
element_number _ = None

-- Four places for the digits of an identifier.
abbrev pub no_digits : List ℕ
no_digits = 0 ∷ 0 ∷ 0 ∷ 0 ∷ []

abbrev pub in_four_places : List ℕ → List ℕ
in_four_places (a ∷ b ∷ []) = a ∷ b ∷ 0 ∷ 0 ∷ []
in_four_places (a ∷ b ∷ c ∷ []) = a ∷ b ∷ c ∷ 0 ∷ []
in_four_places (a ∷ b ∷ c ∷ d ∷ []) = a ∷ b ∷ c ∷ d ∷ []
in_four_places _ = no_digits

-- The digits of an identifier, if it is two to four digits.
abbrev pub digits_of : List ℕ → List ℕ
digits_of identifier = if list_all is_decimal_digit identifier then in_four_places identifier else no_digits

-- The digit that a value with a wrong check digit should end with; of other faults there is none.
abbrev pub IsDigitFor : Gs1Error → List ℕ → ℕ → Type 0
IsDigitFor (WrongCheckDigit element) value digit =
    IsRightDigit value digit ⊎ ((AreFewDigits value → ⊥) × (digit ≡ 0))
IsDigitFor _ value digit = digit ≡ 0

-- The fault has the identifier of this element, and its right check digit.
abbrev pub IsNamedBy : Option Element → ElementStop → Type 0
IsNamedBy (Some element) stop =
    (stop.identifier ≡ digits_of element.identifier) × IsDigitFor stop.error element.value stop.digit
IsNamedBy None stop = (stop.identifier ≡ no_digits) × (stop.digit ≡ 0)

-- The fault is that of this element of a bracketed text, or of none.
abbrev pub IsWrittenAt : List ℕ → Gs1Error → Option Element → Type 0
IsWrittenAt text error element =
    elim (element_number error) [
      | Some n ↦ slice_get (written_elements text) n ≡ element
      | None ↦ element ≡ None
    ]

-- The fault is that of this element that a reader finds in an element string, or of none: the bytes
-- there begin with no element, or the fault is not one element's.
abbrev pub IsFoundAt : List ℕ → Gs1Error → Option Element → Type 0
IsFoundAt bytes error (Some element) =
    elim (element_number error) [ Some n ↦ FindsAt bytes n element | None ↦ ⊥ ]
IsFoundAt bytes error None = elim (element_number error) [ Some n ↦ FindsNoneAt bytes n | None ↦ ⊤ ]

-- The fault is that of an element at this place.
pub record IsFaultIn (place : Option Element → Type 0) (stop : ElementStop) : Type 0 where
  pub element : Option Element
  pub found : place element
  pub named : IsNamedBy element stop
