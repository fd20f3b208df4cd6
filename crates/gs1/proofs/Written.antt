-- An element of the list that a text writes, by its number.
use Rattle.std.proofs.Common.{◌≡◌, ℕ, ◌+◌, ◌-◌, ◌<◌, ◌≤◌, List, [], ◌∷◌, length, take, drop, arith, ap, sym}
use Rattle.std.proofs.Common.{◌∙◌, inl, inr, add-one}
use Rattle.std.specs.Prelude.{None, Some, slice_get}
use Rattle.std.specs.List.{position_or_len}
use Rattle.std.proofs.lemmas.Bool.{cases_lt}
use Rattle.std.proofs.lemmas.List.{take_all}
use Rattle.std.proofs.lemmas.Option.{slice_get_past}
use Rattle.gs1.specs.Elements.{Element, element_of, elements_behind, written_elements, is_opening}
use Rattle.gs1.proofs.Parts.{elements_more, elements_last}

-- The elements that are left are those of the text from a number on.
abbrev pub AreLeft : List ℕ → List ℕ → ℕ → Type 0
AreLeft rest text number =
    (k : ℕ) → slice_get (elements_behind rest) k ≡ slice_get (written_elements text) (number + k)

at_next : (e : Element) (elements : List Element) (k : ℕ) → slice_get (e ∷ elements) (k + 1) ≡ slice_get elements k
at_next e elements k = ap (slice_get (e ∷ elements)) (add-one k)

pub next_written : (rest next text : List ℕ) (end number k : ℕ) → end ≡ position_or_len is_opening rest →
    end ≤ length rest → (end ≡ length rest → ⊥) → next ≡ drop (end + 1) rest → AreLeft rest text number →
    slice_get (elements_behind next) k ≡ slice_get (written_elements text) (number + 1 + k)
next_written rest next text end number k place within more is left =
    let step = elements_more rest end place (omega arith) in
    let same : number + (k + 1) ≡ number + 1 + k = omega arith in
    let first : Element = element_of (take end rest) in
    let later : List Element = elements_behind (drop (end + 1) rest) in
    rw is (sym (at_next first later k) ∙ ap (λ es. slice_get es (k + 1)) (sym step) ∙ left (k + 1) ∙ ap (slice_get (written_elements text)) same)

pub none_written : (rest text : List ℕ) (end counter number : ℕ) → end ≡ position_or_len is_opening rest →
    end ≡ length rest → counter < number → AreLeft rest text counter →
    slice_get (written_elements text) number ≡ None
none_written rest text end counter number place last below left =
    let one = elements_last rest (let e : position_or_len is_opening rest ≡ length rest = omega arith in e) in
    let past : slice_get (element_of rest ∷ []) (number - counter) ≡ None = slice_get_past (element_of rest ∷ []) (number - counter) (omega arith) in
    let same : counter + (number - counter) ≡ number = omega arith in
    ap (slice_get (written_elements text)) (sym same) ∙ sym (left (number - counter))
    ∙ ap (λ es. slice_get es (number - counter)) one ∙ past

pub last_written : (rest text : List ℕ) (end counter number : ℕ) (e : Element) → end ≡ position_or_len is_opening rest →
    end ≤ length rest → counter + 0 ≡ number → e ≡ element_of (take end rest) → AreLeft rest text counter →
    slice_get (written_elements text) number ≡ Some e
last_written rest text end counter number e place within here is left =
    ap (slice_get (written_elements text)) (sym here) ∙ sym (left 0) ∙ first ∙ ap Some (sym is)
  where
    first : slice_get (elements_behind rest) 0 ≡ Some (element_of (take end rest))
    first = elim (cases_lt end (length rest)) [
      | inl more ↦ ap (λ es. slice_get es 0) (elements_more rest end place more)
      | inr whole ↦
          let all : take end rest ≡ rest = take_all end rest (omega arith) in
          let none : position_or_len is_opening rest ≡ length rest = omega arith in
          rw all (ap (λ es. slice_get es 0) (elements_last rest none))
    ]
