-- Texts and element strings whose elements the table allows.
use Rattle.std.proofs.Common.{◌≡◌, ℕ, ◌+◌, true, false, cond, List, [], ◌∷◌, ◌++◌, length, drop, map}
use Rattle.std.proofs.Common.{refl, arith, ap, sym, ◌∙◌}
use Rattle.std.specs.Prelude.{None, Some, slice_index, ◌≢◌}
use Rattle.std.specs.List.{slice_split, flat_map}
use Rattle.std.proofs.lemmas.Grind.{common_steps}
use Rattle.gs1.specs.Elements.{Element, element_of, elements_behind, bracketed, written_elements, is_opening}
use Rattle.gs1.specs.Reader.{Finds, FindsOnly, AreSymbolData, string_of}
use Rattle.gs1.specs.Strings.{FindsBefore}
use Rattle.gs1.specs.Values.{element_error, first_error, text_error}
use Rattle.gs1.specs.Checked.{AreAllowedElements}
use Rattle.gs1.specs.declared.refusal.CheckError.TheVariants.{NoElements}
use Rattle.gs1.proofs.Parts.{elements_cons}
use Rattle.gs1.proofs.Reading.{one_list, finds_string}
use Rattle.gs1.proofs.Faults.{neither}
use Rattle.gs1.proofs.Data.{string_data}
use Rattle.gs1.proofs.Bracketed.{in_brackets, bracketed_part, joined_parts}
use Rattle.gs1.proofs.Cuts.{finds_all}
use Rattle.gs1.proofs.Allowed.{readable, all_readable}

-- ---- Texts

-- Parts that are allowed, in brackets.
bracketed_parts : (number : ℕ) (parts : List (List ℕ)) → first_error number (map element_of parts) ≡ None →
    flat_map in_brackets (map element_of parts) ≡ flat_map (λ part. 0x28 ∷ part) parts
bracketed_parts number [] none = refl
bracketed_parts number (part ∷ parts) none =
    let split = neither (element_error number (element_of part)) (first_error (number + 1) (map element_of parts)) none in
    let first : in_brackets (element_of part) ≡ 0x28 ∷ part = bracketed_part part (readable number (element_of part) split.0).1 in
    let others = bracketed_parts (number + 1) parts split.1 in
    let P : List ℕ → List ℕ → List ℕ = λ a b. a ++ b in
    ap (λ a. P a (flat_map in_brackets (map element_of parts))) first ∙ ap (P (0x28 ∷ part)) others

-- An allowed text begins with an opening bracket, and its elements are allowed.
pub text_tests : (text : List ℕ) → text_error text ≡ None →
    (is_opening (slice_index text 0) ≡ true) × (first_error 0 (written_elements text) ≡ None)
text_tests text none =
    elim (is_opening (slice_index text 0)) as (λ b. cond b (first_error 0 (written_elements text)) (Some NoElements) ≡ None →
    (b ≡ true) × (first_error 0 (written_elements text) ≡ None)) [
      | true ↦ λ h. (refl, h)
      | false ↦ λ h. absurd (let k : Some NoElements ≡ None = h in cc)
    ] none

-- The elements of an allowed text, in brackets, are the text.
pub bracketed_text : (text : List ℕ) → text_error text ≡ None → bracketed (written_elements text) ≡ text
unfolding elements_behind
bracketed_text text none =
    let tests = text_tests text none in
    bracketed_parts 0 (slice_split is_opening (drop 1 text)) tests.1 ∙ joined_parts (drop 1 text) ∙ first text tests.0
  where
    opening : (c : ℕ) → is_opening c ≡ true → c ≡ 0x28
    opening c e = grind (arith, common_steps)

    first : (text : List ℕ) → is_opening (slice_index text 0) ≡ true → 0x28 ∷ drop 1 text ≡ text
    first [] e = absurd (let h : false ≡ true = e in cc)
    first (c ∷ text) e = ap (λ x. x ∷ text) (sym (opening c e))

-- A reader finds the elements of an allowed text, and no others.
pub finds_only : (text bytes : List ℕ) → text_error text ≡ None → bytes ≡ string_of (written_elements text) →
    FindsOnly bytes (written_elements text)
finds_only text bytes none is =
    let found : Finds bytes (written_elements text) =
    rw is (finds_string (written_elements text) (all_readable 0 _ (text_tests text none).1)) in
    record { found = found; only = λ others finds. one_list bytes others (written_elements text) finds found }

-- The string is data of a symbol.
pub text_data : (text bytes : List ℕ) → text_error text ≡ None → bytes ≡ string_of (written_elements text) →
    AreSymbolData bytes
text_data text bytes none is =
    rw is (string_data (written_elements text) (λ e. elements_cons (drop 1 text) e)
    (all_readable 0 _ (text_tests text none).1))

-- What the body has, over the text.
pub as_text : (text given rest bytes : List ℕ) → given ≡ text → None ≡ text_error given → rest ≡ drop 1 given →
    bytes ≡ string_of (elements_behind rest) →
    (text_error text ≡ None) × (bytes ≡ string_of (written_elements text))
as_text text given rest bytes given_is none rest_is is =
    (rw (← given_is) (sym none), rw (← given_is) (rw rest_is at is))

-- ---- Element strings

pub allowed_more : (number at : ℕ) (before : List Element) (e : Element) → number + length before ≡ at →
    first_error number before ≡ None → element_error at e ≡ None → first_error number (before ++ e ∷ []) ≡ None
allowed_more number at [] e count none here =
    let same : at ≡ number = omega arith in
    let first : element_error number e ≡ None = rw same at here in
    rw first refl
allowed_more number at (x ∷ xs) e count none here =
    let split = neither (element_error number x) (first_error (number + 1) xs) none in
    let others = allowed_more (number + 1) at xs e (omega arith) split.1 here in
    rw split.0 others

pub allowed : (bytes : List ℕ) (elements : List Element) → bytes ≢ [] → FindsBefore bytes elements [] →
    first_error 0 elements ≡ None → AreAllowedElements bytes
allowed bytes elements some found none =
    let finds : Finds bytes elements = finds_all bytes elements found in
    record {
      elements = elements;
      found = record { found = finds; only = λ others other. one_list bytes others elements other finds };
      some = λ empty. some (nothing bytes elements empty found);
      allowed = none;
    }
  where
    nothing : (bytes : List ℕ) (elements : List Element) → elements ≡ [] → FindsBefore bytes elements [] → bytes ≡ []
    nothing bytes [] empty found = found
    nothing bytes (e ∷ elements) empty found = absurd (let h : e ∷ elements ≡ [] = empty in cc)
