-- The elements that a text writes, in brackets again, are the text.
use Rattle.std.proofs.Common.{◌≡◌, ℕ, ◌+◌, ◌<◌, true, false, cond, List, [], ◌∷◌, ◌++◌, length, drop, get_or}
use Rattle.std.proofs.Common.{map, refl, arith, ap, sym, ◌∙◌, length-drop}
use Rattle.std.specs.Prelude.{None, Some, slice_index}
use Rattle.std.specs.List.{slice_split, onto_first, flat_map, position_or_len}
use Rattle.std.proofs.lemmas.Grind.{common_steps}
use Rattle.std.proofs.lemmas.List.Sums.{split_at_first, passes_at_first}
use Rattle.gs1.specs.Elements.{Element, element_of, elements_behind, bracketed, first_fault, fault_of}
use Rattle.gs1.specs.Elements.{is_opening, is_closing}
use Rattle.gs1.specs.Elements.{written_elements, text_fault}
use Rattle.gs1.specs.declared.error.Gs1Error.TheVariants.{NoElements}
use Rattle.gs1.proofs.Faults.{neither, readable}

-- An element in brackets.
abbrev pub in_brackets : Element → List ℕ
in_brackets e = 0x28 ∷ e.identifier ++ 0x29 ∷ e.value

-- An element with a value has a closing bracket.
pub bracketed_part : (part : List ℕ) → 0 < length (element_of part).value → in_brackets (element_of part) ≡ 0x28 ∷ part
bracketed_part part some =
    let within : position_or_len is_closing part < length part =
    omega (arith, length-drop (position_or_len is_closing part + 1) part) in
    let bracket : get_or part (position_or_len is_closing part) 0 ≡ 0x29 =
    closing _ (passes_at_first is_closing part 0 within) in
    ap (λ p. 0x28 ∷ p) (sym (let parts = split_at_first is_closing part 0 within in rw bracket at parts))
  where
    closing : (c : ℕ) → is_closing c ≡ true → c ≡ 0x29
    closing c e = grind (arith, common_steps)

-- Parts without faults, in brackets.
bracketed_parts : (number : ℕ) (parts : List (List ℕ)) → first_fault number (map element_of parts) ≡ None →
    flat_map in_brackets (map element_of parts) ≡ flat_map (λ part. 0x28 ∷ part) parts
bracketed_parts number [] none = refl
bracketed_parts number (part ∷ parts) none =
    let split = neither (fault_of number (element_of part)) (first_fault (number + 1) (map element_of parts)) none in
    let first : in_brackets (element_of part) ≡ 0x28 ∷ part = bracketed_part part (readable number (element_of part) split.0).1 in
    let others = bracketed_parts (number + 1) parts split.1 in
    let P : List ℕ → List ℕ → List ℕ = λ a b. a ++ b in
    ap (λ a. P a (flat_map in_brackets (map element_of parts))) first ∙ ap (P (0x28 ∷ part)) others

-- The parts between opening brackets, each behind its bracket, are the text.
pub joined_parts : (text : List ℕ) → flat_map (λ part. 0x28 ∷ part) (slice_split is_opening text) ≡ 0x28 ∷ text
joined_parts [] = refl
joined_parts (c ∷ text) =
    elim (is_opening c) as (λ b. is_opening c ≡ b →
    flat_map (λ part. 0x28 ∷ part) (cond b ([] ∷ slice_split is_opening text) (onto_first c (slice_split is_opening text))) ≡ 0x28 ∷ c ∷ text) [
      | true ↦ λ is. ap (λ rest. 0x28 ∷ rest) (joined_parts text ∙ ap (λ x. x ∷ text) (sym (opening c is)))
      | false ↦ λ is. onto c (slice_split is_opening text) text (joined_parts text)
    ] refl
  where
    opening : (c : ℕ) → is_opening c ≡ true → c ≡ 0x28
    opening c e = grind (arith, common_steps)

    tails : (xs ys : List ℕ) → 0x28 ∷ xs ≡ 0x28 ∷ ys → xs ≡ ys
    tails xs ys e = cc

    onto : (c : ℕ) (parts : List (List ℕ)) (text : List ℕ) → flat_map (λ part. 0x28 ∷ part) parts ≡ 0x28 ∷ text →
        flat_map (λ part. 0x28 ∷ part) (onto_first c parts) ≡ 0x28 ∷ c ∷ text
    onto c [] text e = absurd (let h : [] ≡ 0x28 ∷ text = e in cc)
    onto c (part ∷ parts) text e =
        let same : part ++ flat_map (λ part. 0x28 ∷ part) parts ≡ text = tails _ _ e in ap (λ rest. 0x28 ∷ c ∷ rest) same

-- A text without a fault begins with an opening bracket, and its elements have no fault.
pub text_tests : (text : List ℕ) → text_fault text ≡ None →
    (is_opening (slice_index text 0) ≡ true) × (first_fault 0 (written_elements text) ≡ None)
text_tests text none =
    elim (is_opening (slice_index text 0)) as (λ b. cond b (first_fault 0 (written_elements text)) (Some NoElements) ≡ None →
    (b ≡ true) × (first_fault 0 (written_elements text) ≡ None)) [
      | true ↦ λ h. (refl, h)
      | false ↦ λ h. absurd (let k : Some NoElements ≡ None = h in cc)
    ] none

-- The elements of a text without a fault, in brackets, are the text.
pub bracketed_text : (text : List ℕ) → text_fault text ≡ None → bracketed (written_elements text) ≡ text
unfolding elements_behind
bracketed_text text none =
    let tests = text_tests text none in
    bracketed_parts 0 (slice_split is_opening (drop 1 text)) tests.1 ∙ joined_parts (drop 1 text) ∙ first text tests.0
  where
    opening : (c : ℕ) → is_opening c ≡ true → c ≡ 0x28
    opening c e = grind (arith, common_steps)

    first : (text : List ℕ) → is_opening (slice_index text 0) ≡ true → 0x28 ∷ drop 1 text ≡ text
    first [] e = absurd (let h : false ≡ true = e in cc)
    first (c ∷ text) e = ap (λ x. x ∷ text) (sym (opening c e))
