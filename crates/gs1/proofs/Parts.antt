-- The first of the elements that a text writes, and the rest.
use Rattle.std.proofs.Common.{◌≡◌, ℕ, ◌+◌, ◌<◌, ◌≤◌, true, false, cond, List, [], ◌∷◌, ◌++◌, length, take}
use Rattle.std.proofs.Common.{drop, map, refl, arith, ap, sym, ◌∙◌, inl, inr, append_assoc}
use Rattle.std.specs.Prelude.{Option, None, Some}
use Rattle.std.specs.Option.{option_or}
use Rattle.std.specs.List.{slice_split, onto_first, position_or_len}
use Rattle.std.proofs.lemmas.List.{take_all, length-drop}
use Rattle.std.proofs.lemmas.List.Splits.{slice_split_first, slice_split_none}
use Rattle.std.proofs.lemmas.List.Sums.{fails_before_first}
use Rattle.gs1.specs.Elements.{Element, element_of, is_opening, is_closing, elements_behind, fault_of}
use Rattle.gs1.specs.Elements.{first_fault, length_fault}
use Rattle.std.proofs.lemmas.Bool.{cases_lt}
use Rattle.std.proofs.lemmas.Grind.{common_steps}
use Rattle.gs1.specs.Reader.{string_of, separator_behind}
use Rattle.gs1.specs.declared.error.Gs1Error.{Gs1Error}

-- An opening bracket ends the first element.
pub elements_more : (text : List ℕ) (end : ℕ) → end ≡ position_or_len is_opening text → end < length text →
    elements_behind text ≡ element_of (take end text) ∷ elements_behind (drop (end + 1) text)
unfolding elements_behind
elements_more text end e within =
    rw e (ap (map element_of) (slice_split_first is_opening text 0 (let w : position_or_len is_opening text < length text = omega arith in w)))

-- With no opening bracket there is one element.
pub elements_last : (text : List ℕ) → position_or_len is_opening text ≡ length text →
    elements_behind text ≡ element_of text ∷ []
unfolding elements_behind
elements_last text e =
    ap (map element_of) (slice_split_none is_opening text
    (λ k d within. fails_before_first is_opening text k d (let w : k < position_or_len is_opening text = omega arith in w)))

-- The first fault, in the element before the next opening bracket or behind it.
pub fault_more : (number : ℕ) (text : List ℕ) (end : ℕ) → end ≡ position_or_len is_opening text → end < length text →
    first_fault number (elements_behind text) ≡
    option_or (fault_of number (element_of (take end text)))
    (first_fault (number + 1) (elements_behind (drop (end + 1) text)))
fault_more number text end e within = ap (first_fault number) (elements_more text end e within)

pub fault_last : (number : ℕ) (text : List ℕ) (end : ℕ) → end ≡ position_or_len is_opening text → end ≡ length text →
    first_fault number (elements_behind text) ≡ fault_of number (element_of (take end text))
fault_last number text end e whole =
    let all : take end text ≡ text = take_all end text (let w : length text ≤ end = omega arith in w) in
    let none : position_or_len is_opening text ≡ length text = omega arith in
    rw all (ap (first_fault number) (elements_last text none) ∙ or_none (fault_of number (element_of text)))
  where
    or_none : (fault : Option Gs1Error) → option_or fault None ≡ fault
    or_none None = refl
    or_none (Some x) = refl

-- A value without a fault of its length has at most ninety characters.
pub within_longest : (number : ℕ) (value : List ℕ) → length_fault number value ≡ None → length value ≤ 90
unfolding length_fault
within_longest number value e = grind (arith, common_steps)

-- The fault of the first element is the first fault of the rest, and so of the whole.
pub fault_here : (number : ℕ) (text : List ℕ) (end : ℕ) (whole : Option Gs1Error) (fault : Gs1Error) →
    end ≡ position_or_len is_opening text → end ≤ length text →
    fault_of number (element_of (take end text)) ≡ Some fault →
    first_fault number (elements_behind text) ≡ whole → Some fault ≡ whole
fault_here number text end whole fault place within here e =
    elim (cases_lt end (length text)) [
      | inl more ↦ sym (let step = fault_more number text end place more in rw here at step) ∙ e
      | inr last ↦ sym here ∙ sym (fault_last number text end place (omega arith)) ∙ e
    ]

-- If the first element has no fault, then the first fault of the rest is behind it.
pub fault_behind : (number : ℕ) (text rest : List ℕ) (end : ℕ) (whole : Option Gs1Error) →
    end ≡ position_or_len is_opening text → end ≤ length text → (end ≡ length text → ⊥) →
    fault_of number (element_of (take end text)) ≡ None → rest ≡ drop (end + 1) text →
    first_fault number (elements_behind text) ≡ whole →
    first_fault (number + 1) (elements_behind rest) ≡ whole
fault_behind number text rest end whole place within more none rest_is e =
    rw rest_is (sym (let step = fault_more number text end place (omega arith) in rw none at step) ∙ e)

-- The elements that are left are at most as many as the bytes that are left.
pub count_behind : (number : ℕ) (text rest : List ℕ) (end total : ℕ) → end ≤ length text →
    (end ≡ length text → ⊥) → rest ≡ drop (end + 1) text → number + length text ≤ total →
    number + 1 + length rest ≤ total
count_behind number text rest end total within more rest_is e =
    rw rest_is (omega (arith, length-drop (end + 1) text))

-- There is always a first part.
slice_split_cons : (text : List ℕ) →
    (part : List ℕ) × (parts : List (List ℕ)) × (slice_split is_opening text ≡ part ∷ parts)
slice_split_cons [] = ([], [], refl)
slice_split_cons (x ∷ xs) =
    elim (is_opening x) as (λ b. (part : List ℕ) × (parts : List (List ℕ)) ×
    (cond b ([] ∷ slice_split is_opening xs) (onto_first x (slice_split is_opening xs)) ≡ part ∷ parts)) [
      | true ↦ ([], slice_split is_opening xs, refl)
      | false ↦ elim (slice_split is_opening xs) as (λ split. (part : List ℕ) × (parts : List (List ℕ)) ×
          (onto_first x split ≡ part ∷ parts)) [
            | [] ↦ (x ∷ [], [], refl)
            | part ∷ parts ↦ (x ∷ part, parts, refl)
          ]
    ]

string_of_others : (e : Element) (rest : List ℕ) → string_of (e ∷ elements_behind rest) ≡
    e.identifier ++ e.value ++ separator_behind e.identifier ++ string_of (elements_behind rest)
unfolding elements_behind
string_of_others e rest = let split = slice_split_cons rest in rw split.2 refl

-- The string of a first element before others.
pub string_more : (text : List ℕ) (end : ℕ) → end ≡ position_or_len is_opening text → end < length text →
    string_of (elements_behind text) ≡
    (element_of (take end text)).identifier ++ (element_of (take end text)).value
    ++ separator_behind (element_of (take end text)).identifier ++ string_of (elements_behind (drop (end + 1) text))
string_more text end e within = ap string_of (elements_more text end e within) ∙
    string_of_others (element_of (take end text)) (drop (end + 1) text)

-- The string of the last element.
pub string_last : (text : List ℕ) (end : ℕ) → end ≡ position_or_len is_opening text → end ≡ length text →
    string_of (elements_behind text) ≡
    (element_of (take end text)).identifier ++ (element_of (take end text)).value
string_last text end e whole =
    let all : take end text ≡ text = take_all end text (let w : length text ≤ end = omega arith in w) in
    rw all (ap string_of (elements_last text (let w : position_or_len is_opening text ≡ length text = omega arith in w)))

-- What is written is what was written, the element, its separator and then the rest.
pub string_behind : (text rest : List ℕ) (end close : ℕ) (value bytes longer written whole : List ℕ) →
    end ≡ position_or_len is_opening text → end ≤ length text → (end ≡ length text → ⊥) →
    close ≡ position_or_len is_closing (take end text) → rest ≡ drop (end + 1) text →
    value ≡ drop (close + 1) (take end text) → longer ≡ bytes ++ take close (take end text) ++ value →
    written ≡ longer ++ separator_behind (take close (take end text)) →
    bytes ++ string_of (elements_behind text) ≡ whole →
    written ++ string_of (elements_behind rest) ≡ whole
string_behind text rest end close value bytes longer written whole place within more closes rest_is value_is longer_is written_is e =
    let step = string_more text end place (omega arith) in
    rw (rest_is, written_is, longer_is, value_is, closes)
    (let joined = rw step at e in simp append_assoc (simp append_assoc at joined))

-- At the last element all is written.
pub string_end : (text : List ℕ) (end close : ℕ) (value bytes longer whole : List ℕ) →
    end ≡ position_or_len is_opening text → end ≡ length text →
    close ≡ position_or_len is_closing (take end text) →
    value ≡ drop (close + 1) (take end text) → longer ≡ bytes ++ take close (take end text) ++ value →
    bytes ++ string_of (elements_behind text) ≡ whole → longer ≡ whole
string_end text end close value bytes longer whole place last closes value_is longer_is e =
    let step = string_last text end place last in
    rw (longer_is, value_is, closes)
    (let joined = rw step at e in simp append_assoc joined)

-- There is always a first element.
pub elements_cons : (text : List ℕ) → elements_behind text ≡ [] → ⊥
unfolding elements_behind
elements_cons text e =
    let split = slice_split_cons text in
    let none : element_of split.0 ∷ map element_of split.1 ≡ [] = sym (ap (map element_of) split.2) ∙ e in cc
