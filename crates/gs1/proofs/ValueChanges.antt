-- The first change of a value: in the first element, or behind it.
use Rattle.std.proofs.Common.{◌≡◌, ℕ, ◌+◌, ◌<◌, ◌≤◌, Bool, true, false, List, length, take, drop}
use Rattle.std.proofs.Common.{arith, ap, sym, ◌∙◌, inl, inr}
use Rattle.std.specs.Prelude.{Option, None, Some, if◌then◌else◌}
use Rattle.std.specs.Option.{option_or}
use Rattle.std.specs.List.{position_or_len}
use Rattle.std.proofs.lemmas.List.{take_all}
use Rattle.std.proofs.lemmas.Bool.{cases_lt}
use Rattle.gs1.specs.Elements.{Element, element_of, is_opening, elements_behind}
use Rattle.gs1.specs.Together.{is_change, change_among, change_fault, first_change}
use Rattle.gs1.specs.declared.together.TogetherError.{TogetherError}
use Rattle.gs1.proofs.Parts.{elements_more, elements_last}

change_more : (number : ℕ) (text : List ℕ) (end : ℕ) → end ≡ position_or_len is_opening text → end < length text →
    first_change number (elements_behind text) ≡
    option_or (change_fault number (element_of (take end text)) (elements_behind (drop (end + 1) text)))
    (first_change (number + 1) (elements_behind (drop (end + 1) text)))
change_more number text end e within = ap (first_change number) (elements_more text end e within)

-- Nothing is later than the last element.
pub change_last : (number : ℕ) (text : List ℕ) (end : ℕ) → end ≡ position_or_len is_opening text →
    end ≡ length text → first_change number (elements_behind text) ≡ None
unfolding change_fault
change_last number text end e whole =
    let none : position_or_len is_opening text ≡ length text = omega arith in
    ap (first_change number) (elements_last text none)

-- The fault of the first element is the first fault of the rest, and so of the whole.
pub change_here : (number : ℕ) (text rest : List ℕ) (end : ℕ) (whole : Option TogetherError) (fault : TogetherError) →
    end ≡ position_or_len is_opening text → end ≤ length text → (end ≡ length text → ⊥) → rest ≡ drop (end + 1) text →
    change_fault number (element_of (take end text)) (elements_behind rest) ≡ Some fault →
    first_change number (elements_behind text) ≡ whole → Some fault ≡ whole
change_here number text rest end whole fault place within more rest_is here e =
    let step = change_more number text end place (omega arith) in
    let found : change_fault number (element_of (take end text)) (elements_behind (drop (end + 1) text)) ≡ Some fault =
    rw (← rest_is) here in
    sym (rw found at step) ∙ e

-- If the first element has no fault, then the first fault of the rest is behind it.
pub change_behind : (number : ℕ) (text rest : List ℕ) (end : ℕ) (whole : Option TogetherError) →
    end ≡ position_or_len is_opening text → end ≤ length text → (end ≡ length text → ⊥) → rest ≡ drop (end + 1) text →
    change_fault number (element_of (take end text)) (elements_behind rest) ≡ None →
    first_change number (elements_behind text) ≡ whole → first_change (number + 1) (elements_behind rest) ≡ whole
change_behind number text rest end whole place within more rest_is here e =
    let step = change_more number text end place (omega arith) in
    let found : change_fault number (element_of (take end text)) (elements_behind (drop (end + 1) text)) ≡ None =
    rw (← rest_is) here in
    rw rest_is (sym (rw found at step) ∙ e)

-- ---- The first element that has another value

among_more : (first : Element) (number : ℕ) (text : List ℕ) (end : ℕ) → end ≡ position_or_len is_opening text →
    end < length text → change_among first number (elements_behind text) ≡
    (if is_change first (element_of (take end text)) then Some number
    else change_among first (number + 1) (elements_behind (drop (end + 1) text)))
among_more first number text end e within = ap (change_among first number) (elements_more text end e within)

among_last : (first : Element) (number : ℕ) (text : List ℕ) (end : ℕ) → end ≡ position_or_len is_opening text →
    end ≡ length text → change_among first number (elements_behind text) ≡
    (if is_change first (element_of (take end text)) then Some number else None)
among_last first number text end e whole =
    let same : take end text ≡ text = take_all end text (let w : length text ≤ end = omega arith in w) in
    let none : position_or_len is_opening text ≡ length text = omega arith in
    rw same (ap (change_among first number) (elements_last text none))

-- The first element has another.
pub among_here : (first : Element) (number : ℕ) (text : List ℕ) (end : ℕ) (is : Bool) (whole : Option ℕ) →
    end ≡ position_or_len is_opening text → end ≤ length text →
    is ≡ is_change first (element_of (take end text)) → is ≡ true →
    change_among first number (elements_behind text) ≡ whole → Some number ≡ whole
among_here first number text end is whole place within test found e =
    let here : is_change first (element_of (take end text)) ≡ true = sym test ∙ found in
    elim (cases_lt end (length text)) [
      | inl more ↦ sym (let step = among_more first number text end place more in rw here at step) ∙ e
      | inr last ↦ sym (let step = among_last first number text end place (omega arith) in rw here at step) ∙ e
    ]

-- The last element has none.
pub among_none : (first : Element) (number : ℕ) (text : List ℕ) (end : ℕ) (is : Bool) (whole : Option ℕ) →
    end ≡ position_or_len is_opening text → end ≡ length text →
    is ≡ is_change first (element_of (take end text)) → is ≡ false →
    change_among first number (elements_behind text) ≡ whole → None ≡ whole
among_none first number text end is whole place last test found e =
    let here : is_change first (element_of (take end text)) ≡ false = sym test ∙ found in
    sym (let step = among_last first number text end place last in rw here at step) ∙ e

-- The first element has none, and there are others.
pub among_behind : (first : Element) (number : ℕ) (text rest : List ℕ) (end : ℕ) (is : Bool) (whole : Option ℕ) →
    end ≡ position_or_len is_opening text → end ≤ length text → (end ≡ length text → ⊥) →
    is ≡ is_change first (element_of (take end text)) → is ≡ false →
    rest ≡ drop (end + 1) text → change_among first number (elements_behind text) ≡ whole →
    change_among first (number + 1) (elements_behind rest) ≡ whole
among_behind first number text rest end is whole place within more test found rest_is e =
    let here : is_change first (element_of (take end text)) ≡ false = sym test ∙ found in
    rw rest_is (sym (let step = among_more first number text end place (omega arith) in rw here at step) ∙ e)
