-- No fault by the table is that an allocation failed, or that there are no elements.
use Rattle.std.proofs.Common.{◌≡◌, ℕ, ◌+◌, true, false, cond, List, [], ◌∷◌, length, refl, arith, sym, ap, inl, inr, subst}
use Rattle.std.specs.Prelude.{Option, None, Some, Result, Err, ◌≢◌, ◌&&◌, is_some, is_none}
use Rattle.std.specs.Option.{option_or, option_map}
use Rattle.std.proofs.lemmas.Grind.{common_steps}
use Rattle.gs1.specs.Identifiers.{prefix, identifier_length}
use Rattle.gs1.specs.Checks.{two_digits}
use Rattle.gs1.specs.Elements.{Element, written_elements}
use Rattle.gs1.specs.Strings.{FindsBefore}
use Rattle.gs1.specs.Values.{identifier_error, value_error, element_error, first_error, text_error, IsRefusedByTable}
use Rattle.gs1.specs.Values.{is_assigned, number_of_identifier}
use Rattle.gs1.specs.Elements.{is_identifier}
use Rattle.gs1.specs.Checked.{BeginsWithError, IsFirstError, IsRefusedStringByTable, no_element_error}
use Rattle.gs1.specs.declared.reason.Fault.{Fault}
use Rattle.gs1.specs.declared.refusal.CheckError.{CheckError}
use Rattle.gs1.specs.declared.refusal.CheckError.TheVariants.{NoElements, InvalidIdentifier, UnknownIdentifier}
use Rattle.gs1.specs.declared.refusal.CheckError.TheVariants.{WrongValue, OutOfMemory}

-- The fault, if there is one, is another.
abbrev IsOther : Option CheckError → Type 0
IsOther fault = (fault ≡ Some OutOfMemory → ⊥) × (fault ≡ Some NoElements → ⊥)

identifier_other : (number : ℕ) (identifier : List ℕ) → IsOther (identifier_error number identifier)
unfolding identifier_error
identifier_other number identifier =
    elim (is_identifier identifier) as (λ a. IsOther (cond a (cond (is_assigned identifier) None
    (Some (UnknownIdentifier number (number_of_identifier identifier)))) (Some (InvalidIdentifier number)))) [
      | true ↦ elim (is_assigned identifier) as (λ b. IsOther (cond b None (Some (UnknownIdentifier number (number_of_identifier identifier))))) [
        | true ↦ (λ e. cc, λ e. cc)
        | false ↦ (λ e. cc, λ e. cc)
      ]
      | false ↦ (λ e. cc, λ e. cc)
    ]

mapped_other : (number identifier : ℕ) (fault : Option Fault) →
    IsOther (option_map (λ f. WrongValue number identifier f.place f.reason) fault)
mapped_other number identifier None = (λ e. let h : None ≡ Some OutOfMemory = e in cc, λ e. let h : None ≡ Some NoElements = e in cc)
mapped_other number identifier (Some f) = (
  λ e. let h : Some (WrongValue number identifier f.place f.reason) ≡ Some OutOfMemory = e in cc,
  λ e. let h : Some (WrongValue number identifier f.place f.reason) ≡ Some NoElements = e in cc,
)

value_other : (number : ℕ) (identifier value : List ℕ) → IsOther (value_error number identifier value)
unfolding value_error
value_other number identifier value = mapped_other number (number_of_identifier identifier) _

or_other : (a b : Option CheckError) → IsOther a → IsOther b → IsOther (option_or a b)
or_other None b first second = second
or_other (Some fault) b first second = first

element_other : (number : ℕ) (e : Element) → IsOther (element_error number e)
unfolding element_error
element_other number e =
    or_other (identifier_error number e.identifier) _ (identifier_other number e.identifier)
    (value_other number e.identifier e.value)

first_other : (number : ℕ) (elements : List Element) → IsOther (first_error number elements)
first_other number [] =
    (λ e. let h : None ≡ Some OutOfMemory = e in cc, λ e. let h : None ≡ Some NoElements = e in cc)
first_other number (e ∷ elements) =
    or_other (element_error number e) _ (element_other number e) (first_other (number + 1) elements)

text_other : (text : List ℕ) → text_error text ≡ Some OutOfMemory → ⊥
text_other text e = grind (arith, common_steps, (first_other 0 (written_elements text)).0)

-- The fault of a text is why it is refused.
pub refused_text : (text : List ℕ) (fault : CheckError) → text_error text ≡ Some fault → IsRefusedByTable text fault
refused_text text OutOfMemory e = absurd (text_other text e)
refused_text text NoElements e = e
refused_text text (InvalidIdentifier n) e = e
refused_text text (UnknownIdentifier n i) e = e
refused_text text (WrongValue n i p r) e = e

-- ---- Element strings

no_element_other : (number : ℕ) (bytes : List ℕ) → IsOther (Some (no_element_error number bytes))
no_element_other number bytes =
    elim (is_some (prefix bytes) && is_none (identifier_length bytes)) as (λ b.
    IsOther (Some (cond b (UnknownIdentifier number (two_digits bytes 0)) (InvalidIdentifier number)))) [
      | true ↦ (λ e. cc, λ e. cc)
      | false ↦ (λ e. cc, λ e. cc)
    ]

here_other : (number : ℕ) (bytes : List ℕ) (fault : CheckError) → BeginsWithError number bytes fault → IsOther (Some fault)
here_other number bytes fault here =
    elim here [
      | inl first ↦ subst IsOther first.2 (element_other number first.0)
      | inr none ↦ subst IsOther (ap Some (sym none.1)) (no_element_other number bytes)
    ]

-- A result that is such a fault is not that an allocation failed.
pub no_memory : (result : Result (Unit {0}) CheckError) (number : ℕ) (bytes : List ℕ) (x fault : CheckError) →
    result ≡ Err x → x ≡ fault → BeginsWithError number bytes fault → result ≡ Err OutOfMemory → ⊥
no_memory result number bytes x fault is same here e =
    let memory : fault ≡ OutOfMemory = cc in (here_other number bytes fault here).0 (ap Some memory)

by_case : (bytes : List ℕ) (fault : CheckError) → IsOther (Some fault) → IsFirstError bytes fault →
    IsRefusedStringByTable bytes fault
by_case bytes OutOfMemory other first = other.0 refl
by_case bytes NoElements other first = absurd (other.1 refl)
by_case bytes (InvalidIdentifier n) other first = first
by_case bytes (UnknownIdentifier n i) other first = first
by_case bytes (WrongValue n i p r) other first = first

-- The bytes that are left begin with a fault.
pub refused_by : (bytes : List ℕ) (before : List Element) (rest : List ℕ) (number : ℕ) (fault : CheckError) →
    FindsBefore bytes before rest → first_error 0 before ≡ None → length before ≡ number → rest ≢ [] →
    BeginsWithError number rest fault → IsRefusedStringByTable bytes fault
refused_by bytes before rest number fault found none count more here =
    by_case bytes fault (here_other number rest fault here) (record {
      before = before;
      rest = rest;
      found = found;
      allowed = none;
      more = more;
      here = (let P : ℕ → Type 0 = λ n. BeginsWithError n rest fault in subst P (sym count) here);
    })
