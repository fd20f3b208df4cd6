-- No fault of an element is that an allocation failed, or that there are no elements.
use Rattle.std.proofs.Common.{◌≡◌, ℕ, ◌+◌, List, [], ◌∷◌, arith}
use Rattle.std.specs.Prelude.{Option, None, Some}
use Rattle.std.specs.Option.{option_or}
use Rattle.std.proofs.lemmas.Grind.{common_steps}
use Rattle.gs1.specs.Elements.{Element, first_fault, fault_of, identifier_fault, length_fault}
use Rattle.gs1.specs.Elements.{character_fault, digits_fault}
use Rattle.gs1.specs.Elements.{written_elements, text_fault, IsRefusedText}
use Rattle.gs1.specs.declared.error.Gs1Error.{Gs1Error}
use Rattle.gs1.specs.declared.error.Gs1Error.TheVariants.{NoElements, InvalidIdentifier, UnknownIdentifier}
use Rattle.gs1.specs.declared.error.Gs1Error.TheVariants.{EmptyValue, ValueTooLong, InvalidCharacter}
use Rattle.gs1.specs.declared.error.Gs1Error.TheVariants.{WrongLength, WrongCheckDigit, OutOfMemory}

-- The fault, if there is one, is another.
abbrev pub IsOther : Option Gs1Error → Type 0
IsOther fault = (fault ≡ Some OutOfMemory → ⊥) × (fault ≡ Some NoElements → ⊥)

identifier_other : (number : ℕ) (identifier : List ℕ) → IsOther (identifier_fault number identifier)
unfolding identifier_fault
identifier_other number identifier =
    (λ e. grind (arith, common_steps), λ e. grind (arith, common_steps))

length_other : (number : ℕ) (value : List ℕ) → IsOther (length_fault number value)
unfolding length_fault
length_other number value =
    (λ e. grind (arith, common_steps), λ e. grind (arith, common_steps))

character_other : (number : ℕ) (identifier value : List ℕ) → IsOther (character_fault number identifier value)
unfolding character_fault
character_other number identifier value =
    (λ e. grind (arith, common_steps), λ e. grind (arith, common_steps))

digits_other : (number : ℕ) (identifier value : List ℕ) → IsOther (digits_fault number identifier value)
unfolding digits_fault
digits_other number identifier value =
    (λ e. grind (arith, common_steps), λ e. grind (arith, common_steps))

or_other : (a b : Option Gs1Error) → IsOther a → IsOther b → IsOther (option_or a b)
or_other None b first second = second
or_other (Some fault) b first second = first

pub fault_other : (number : ℕ) (e : Element) → IsOther (fault_of number e)
unfolding fault_of
fault_other number e =
    or_other (identifier_fault number e.identifier) _ (identifier_other number e.identifier)
    (or_other (length_fault number e.value) _ (length_other number e.value)
    (or_other (character_fault number e.identifier e.value) _ (character_other number e.identifier e.value)
    (digits_other number e.identifier e.value)))

first_other : (number : ℕ) (elements : List Element) → IsOther (first_fault number elements)
first_other number [] =
    (λ e. let h : None ≡ Some OutOfMemory = e in cc, λ e. let h : None ≡ Some NoElements = e in cc)
first_other number (e ∷ elements) =
    or_other (fault_of number e) _ (fault_other number e) (first_other (number + 1) elements)

text_other : (text : List ℕ) → text_fault text ≡ Some OutOfMemory → ⊥
text_other text e = grind (arith, common_steps, (first_other 0 (written_elements text)).0)

-- The fault of a text is why it is refused.
pub refused_by : (text : List ℕ) (fault : Gs1Error) → text_fault text ≡ Some fault → IsRefusedText text fault
refused_by text OutOfMemory e = absurd (text_other text e)
refused_by text NoElements e = e
refused_by text (InvalidIdentifier n) e = e
refused_by text (UnknownIdentifier n) e = e
refused_by text (EmptyValue n) e = e
refused_by text (ValueTooLong n) e = e
refused_by text (InvalidCharacter n p b) e = e
refused_by text (WrongLength n) e = e
refused_by text (WrongCheckDigit n) e = e
