-- Why an element string is refused.
use Rattle.std.proofs.Common.{◌≡◌, ℕ, true, false, cond, List, [], length, refl, sym, ap, inl, inr, subst}
use Rattle.std.specs.Prelude.{None, Some, Result, Err, ◌≢◌, ◌&&◌, is_some, is_none}
use Rattle.gs1.specs.Identifiers.{prefix, identifier_length}
use Rattle.gs1.specs.Elements.{Element, first_fault}
use Rattle.gs1.specs.Strings.{FindsBefore, BeginsWithFault, IsFirstFault, IsRefusedString, no_element_fault}
use Rattle.gs1.specs.declared.error.Gs1Error.{Gs1Error}
use Rattle.gs1.specs.declared.error.Gs1Error.TheVariants.{NoElements, InvalidIdentifier, UnknownIdentifier}
use Rattle.gs1.specs.declared.error.Gs1Error.TheVariants.{EmptyValue, ValueTooLong, InvalidCharacter}
use Rattle.gs1.specs.declared.error.Gs1Error.TheVariants.{WrongLength, WrongCheckDigit, OutOfMemory}
use Rattle.gs1.proofs.Memory.{IsOther, fault_other}

-- The fault is another than that an allocation failed, or that there are no elements.
no_element_other : (number : ℕ) (bytes : List ℕ) → IsOther (Some (no_element_fault number bytes))
no_element_other number bytes =
    elim (is_some (prefix bytes) && is_none (identifier_length bytes)) as (λ b.
    IsOther (Some (cond b (UnknownIdentifier number) (InvalidIdentifier number)))) [
      | true ↦ (λ e. cc, λ e. cc)
      | false ↦ (λ e. cc, λ e. cc)
    ]

here_other : (number : ℕ) (bytes : List ℕ) (fault : Gs1Error) → BeginsWithFault number bytes fault → IsOther (Some fault)
here_other number bytes fault here =
    elim here [
      | inl first ↦ subst IsOther first.2 (fault_other number first.0)
      | inr none ↦ subst IsOther (ap Some (sym none.1)) (no_element_other number bytes)
    ]

-- A result that is such a fault is not that an allocation failed.
pub no_memory : (result : Result (Unit {0}) Gs1Error) (number : ℕ) (bytes : List ℕ) (x fault : Gs1Error) →
    result ≡ Err x → x ≡ fault → BeginsWithFault number bytes fault → result ≡ Err OutOfMemory → ⊥
no_memory result number bytes x fault is same here e =
    let memory : fault ≡ OutOfMemory = cc in (here_other number bytes fault here).0 (ap Some memory)

by_case : (bytes : List ℕ) (fault : Gs1Error) → IsOther (Some fault) → IsFirstFault bytes fault → IsRefusedString bytes fault
by_case bytes OutOfMemory other first = other.0 refl
by_case bytes NoElements other first = absurd (other.1 refl)
by_case bytes (InvalidIdentifier n) other first = first
by_case bytes (UnknownIdentifier n) other first = first
by_case bytes (EmptyValue n) other first = first
by_case bytes (ValueTooLong n) other first = first
by_case bytes (InvalidCharacter n p b) other first = first
by_case bytes (WrongLength n) other first = first
by_case bytes (WrongCheckDigit n) other first = first

-- The bytes that are left begin with a fault.
pub refused_by : (bytes : List ℕ) (before : List Element) (rest : List ℕ) (number : ℕ) (fault : Gs1Error) →
    FindsBefore bytes before rest → first_fault 0 before ≡ None → length before ≡ number → rest ≢ [] →
    BeginsWithFault number rest fault → IsRefusedString bytes fault
refused_by bytes before rest number fault found none count more here =
    by_case bytes fault (here_other number rest fault here) (record {
      before = before;
      rest = rest;
      found = found;
      faultless = none;
      more = more;
      here = (let P : ℕ → Type 0 = λ n. BeginsWithFault n rest fault in subst P (sym count) here);
    })
