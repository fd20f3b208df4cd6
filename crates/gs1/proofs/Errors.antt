-- The first fault of elements by the table: in the first, or behind it.
use Rattle.std.proofs.Common.{◌≡◌, ℕ, ◌+◌, ◌<◌, ◌≤◌, List, length, take, drop}
use Rattle.std.proofs.Common.{refl, arith, ap, sym, ◌∙◌, inl, inr}
use Rattle.std.specs.Prelude.{Option, None, Some}
use Rattle.std.specs.Option.{option_or}
use Rattle.std.specs.List.{position_or_len}
use Rattle.std.proofs.lemmas.List.{take_all}
use Rattle.std.proofs.lemmas.Bool.{cases_lt}
use Rattle.gs1.specs.Elements.{element_of, is_opening, elements_behind}
use Rattle.gs1.specs.Values.{element_error, first_error}
use Rattle.gs1.specs.declared.refusal.CheckError.{CheckError}
use Rattle.gs1.proofs.Parts.{elements_more, elements_last}

-- The first fault, in the element before the next opening bracket or behind it.
error_more : (number : ℕ) (text : List ℕ) (end : ℕ) → end ≡ position_or_len is_opening text → end < length text →
    first_error number (elements_behind text) ≡
    option_or (element_error number (element_of (take end text)))
    (first_error (number + 1) (elements_behind (drop (end + 1) text)))
error_more number text end e within = ap (first_error number) (elements_more text end e within)

pub error_last : (number : ℕ) (text : List ℕ) (end : ℕ) → end ≡ position_or_len is_opening text → end ≡ length text →
    first_error number (elements_behind text) ≡ element_error number (element_of (take end text))
error_last number text end e whole =
    let all : take end text ≡ text = take_all end text (let w : length text ≤ end = omega arith in w) in
    let none : position_or_len is_opening text ≡ length text = omega arith in
    rw all (ap (first_error number) (elements_last text none) ∙ or_none (element_error number (element_of text)))
  where
    or_none : (fault : Option CheckError) → option_or fault None ≡ fault
    or_none None = refl
    or_none (Some x) = refl

-- The fault of the first element is the first fault of the rest, and so of the whole.
pub error_here : (number : ℕ) (text : List ℕ) (end : ℕ) (whole : Option CheckError) (fault : CheckError) →
    end ≡ position_or_len is_opening text → end ≤ length text →
    element_error number (element_of (take end text)) ≡ Some fault →
    first_error number (elements_behind text) ≡ whole → Some fault ≡ whole
error_here number text end whole fault place within here e =
    elim (cases_lt end (length text)) [
      | inl more ↦ sym (let step = error_more number text end place more in rw here at step) ∙ e
      | inr last ↦ sym here ∙ sym (error_last number text end place (omega arith)) ∙ e
    ]

-- If the first element has no fault, then the first fault of the rest is behind it.
pub error_behind : (number : ℕ) (text rest : List ℕ) (end : ℕ) (whole : Option CheckError) →
    end ≡ position_or_len is_opening text → end ≤ length text → (end ≡ length text → ⊥) →
    element_error number (element_of (take end text)) ≡ None → rest ≡ drop (end + 1) text →
    first_error number (elements_behind text) ≡ whole →
    first_error (number + 1) (elements_behind rest) ≡ whole
error_behind number text rest end whole place within more none rest_is e =
    rw rest_is (sym (let step = error_more number text end place (omega arith) in rw none at step) ∙ e)
