-- The first conflict of elements, and the first among ranges: in the first element, or behind it.
use Rattle.std.proofs.Common.{◌≡◌, ℕ, ◌+◌, ◌<◌, ◌≤◌, Bool, true, false, List, length, take, drop}
use Rattle.std.proofs.Common.{refl, arith, ap, sym, ◌∙◌, inl, inr}
use Rattle.std.specs.Prelude.{Option, None, Some, if◌then◌else◌}
use Rattle.std.specs.Option.{option_or}
use Rattle.std.specs.List.{position_or_len}
use Rattle.std.proofs.lemmas.List.{take_all}
use Rattle.std.proofs.lemmas.Bool.{cases_lt}
use Rattle.gs1.specs.Elements.{Element, element_of, is_opening, elements_behind}
use Rattle.gs1.specs.Values.{number_of_identifier}
use Rattle.gs1.specs.Together.{is_among, first_among, element_conflict, first_conflict}
use Rattle.gs1.specs.declared.together.TogetherError.{TogetherError}
use Rattle.gs1.proofs.Parts.{elements_more, elements_last}

conflict_more : (all : List Element) (number : ℕ) (text : List ℕ) (end : ℕ) → end ≡ position_or_len is_opening text →
    end < length text → first_conflict all number (elements_behind text) ≡
    option_or (element_conflict all number (number_of_identifier (element_of (take end text)).identifier))
    (first_conflict all (number + 1) (elements_behind (drop (end + 1) text)))
conflict_more all number text end e within = ap (first_conflict all number) (elements_more text end e within)

pub conflict_last : (all : List Element) (number : ℕ) (text : List ℕ) (end : ℕ) → end ≡ position_or_len is_opening text →
    end ≡ length text → first_conflict all number (elements_behind text) ≡
    element_conflict all number (number_of_identifier (element_of (take end text)).identifier)
conflict_last all number text end e whole =
    let same : take end text ≡ text = take_all end text (let w : length text ≤ end = omega arith in w) in
    let none : position_or_len is_opening text ≡ length text = omega arith in
    rw same (ap (first_conflict all number) (elements_last text none) ∙
    or_none (element_conflict all number (number_of_identifier (element_of text).identifier)))
  where
    or_none : (fault : Option TogetherError) → option_or fault None ≡ fault
    or_none None = refl
    or_none (Some x) = refl

-- The fault of the first element is the first fault of the rest, and so of the whole.
pub conflict_here : (all : List Element) (number : ℕ) (text : List ℕ) (end : ℕ) (whole : Option TogetherError)
    (fault : TogetherError) → end ≡ position_or_len is_opening text → end ≤ length text →
    element_conflict all number (number_of_identifier (element_of (take end text)).identifier) ≡ Some fault →
    first_conflict all number (elements_behind text) ≡ whole → Some fault ≡ whole
conflict_here all number text end whole fault place within here e =
    elim (cases_lt end (length text)) [
      | inl more ↦ sym (let step = conflict_more all number text end place more in rw here at step) ∙ e
      | inr last ↦ sym here ∙ sym (conflict_last all number text end place (omega arith)) ∙ e
    ]

-- If the first element has no fault, then the first fault of the rest is behind it.
pub conflict_behind : (all : List Element) (number : ℕ) (text rest : List ℕ) (end : ℕ) (whole : Option TogetherError) →
    end ≡ position_or_len is_opening text → end ≤ length text → (end ≡ length text → ⊥) →
    element_conflict all number (number_of_identifier (element_of (take end text)).identifier) ≡ None →
    rest ≡ drop (end + 1) text → first_conflict all number (elements_behind text) ≡ whole →
    first_conflict all (number + 1) (elements_behind rest) ≡ whole
conflict_behind all number text rest end whole place within more none rest_is e =
    rw rest_is (sym (let step = conflict_more all number text end place (omega arith) in rw none at step) ∙ e)

-- ---- The first among ranges

among_more : (ranges : List (ℕ × ℕ)) (number : ℕ) (text : List ℕ) (end : ℕ) → end ≡ position_or_len is_opening text →
    end < length text → first_among ranges number (elements_behind text) ≡
    (if is_among ranges (number_of_identifier (element_of (take end text)).identifier) then Some number
    else first_among ranges (number + 1) (elements_behind (drop (end + 1) text)))
among_more ranges number text end e within = ap (first_among ranges number) (elements_more text end e within)

among_last : (ranges : List (ℕ × ℕ)) (number : ℕ) (text : List ℕ) (end : ℕ) → end ≡ position_or_len is_opening text →
    end ≡ length text → first_among ranges number (elements_behind text) ≡
    (if is_among ranges (number_of_identifier (element_of (take end text)).identifier) then Some number else None)
among_last ranges number text end e whole =
    let same : take end text ≡ text = take_all end text (let w : length text ≤ end = omega arith in w) in
    let none : position_or_len is_opening text ≡ length text = omega arith in
    rw same (ap (first_among ranges number) (elements_last text none))

-- The first element is among them.
pub among_here : (ranges : List (ℕ × ℕ)) (number : ℕ) (text : List ℕ) (end : ℕ) (is : Bool) (whole : Option ℕ) →
    end ≡ position_or_len is_opening text → end ≤ length text →
    is ≡ is_among ranges (number_of_identifier (element_of (take end text)).identifier) → is ≡ true →
    first_among ranges number (elements_behind text) ≡ whole → Some number ≡ whole
among_here ranges number text end is whole place within test found e =
    let here : is_among ranges (number_of_identifier (element_of (take end text)).identifier) ≡ true = sym test ∙ found in
    elim (cases_lt end (length text)) [
      | inl more ↦ sym (let step = among_more ranges number text end place more in rw here at step) ∙ e
      | inr last ↦ sym (let step = among_last ranges number text end place (omega arith) in rw here at step) ∙ e
    ]

-- The last element is not.
pub among_none : (ranges : List (ℕ × ℕ)) (number : ℕ) (text : List ℕ) (end : ℕ) (is : Bool) (whole : Option ℕ) →
    end ≡ position_or_len is_opening text → end ≡ length text →
    is ≡ is_among ranges (number_of_identifier (element_of (take end text)).identifier) → is ≡ false →
    first_among ranges number (elements_behind text) ≡ whole → None ≡ whole
among_none ranges number text end is whole place last test found e =
    let here : is_among ranges (number_of_identifier (element_of (take end text)).identifier) ≡ false = sym test ∙ found in
    sym (let step = among_last ranges number text end place last in rw here at step) ∙ e

-- The first element is not, and there are others.
pub among_behind : (ranges : List (ℕ × ℕ)) (number : ℕ) (text rest : List ℕ) (end : ℕ) (is : Bool) (whole : Option ℕ) →
    end ≡ position_or_len is_opening text → end ≤ length text → (end ≡ length text → ⊥) →
    is ≡ is_among ranges (number_of_identifier (element_of (take end text)).identifier) → is ≡ false →
    rest ≡ drop (end + 1) text → first_among ranges number (elements_behind text) ≡ whole →
    first_among ranges (number + 1) (elements_behind rest) ≡ whole
among_behind ranges number text rest end is whole place within more test found rest_is e =
    let here : is_among ranges (number_of_identifier (element_of (take end text)).identifier) ≡ false = sym test ∙ found in
    rw rest_is (sym (let step = among_more ranges number text end place (omega arith) in rw here at step) ∙ e)
