-- An element string is data of a symbol.
use Rattle.std.proofs.Common.{◌≡◌, ◌≢◌, ℕ, true, false, cond, List, [], ◌∷◌, ◌++◌, length, refl, arith, ap}
use Rattle.std.proofs.Common.{append_assoc, length-append}
use Rattle.std.specs.Prelude.{is_some, if◌then◌else◌, All}
use Rattle.std.specs.List.{slice_split, onto_first, AllPass}
use Rattle.std.proofs.lemmas.Grind.{common_steps}
use Rattle.std.proofs.lemmas.List.{append-nil}
use Rattle.std.proofs.lemmas.List.Elements.{All-nil, All-cons, All-head, All-tail, All-weaker}
use Rattle.std.proofs.lemmas.List.Splits.{slice_split_none, slice_split_at, slice_split-cons_no}
use Rattle.gs1.specs.Identifiers.{is_encodable, predefined_length}
use Rattle.gs1.specs.Elements.{Element}
use Rattle.gs1.specs.Reader.{AreSymbolData, is_group_separator, string_of}
use Rattle.gs1.proofs.Reading.{IsReadable, AllReadable}

-- A part of the data.
abbrev IsPart : List ℕ → Type 0
IsPart part = (part ≢ []) × AllPass is_encodable part

unseparated : (c : ℕ) → is_encodable c ≡ true → is_group_separator c ≡ false
unseparated c e = grind (arith, common_steps)

-- Characters alone are one part.
alone : (text : List ℕ) → text ≢ [] → AllPass is_encodable text → AreSymbolData text
alone text some good =
    let one : slice_split is_group_separator text ≡ text ∷ [] = slice_split_none is_group_separator text
    (All-weaker _ (λ c. is_group_separator c ≡ false) unseparated text good) in
    rw one (All-cons IsPart text [] (some, good) (All-nil IsPart))

-- Characters before a separator are one part more.
separated : (text rest : List ℕ) → text ≢ [] → AllPass is_encodable text → AreSymbolData rest →
    AreSymbolData (text ++ 0x1d ∷ rest)
separated text rest some good data_rest =
    let more : slice_split is_group_separator (text ++ 0x1d ∷ rest) ≡ text ∷ slice_split is_group_separator rest =
    slice_split_at is_group_separator text 0x1d rest (All-weaker _ (λ c. is_group_separator c ≡ false) unseparated text good) refl in
    rw more (All-cons IsPart text _ (some, good) data_rest)

-- A character in front of the first part.
onto_part : (c : ℕ) (parts : List (List ℕ)) → is_encodable c ≡ true → parts ≢ [] → All IsPart parts →
    All IsPart (onto_first c parts)
onto_part c [] e some good = absurd (some refl)
onto_part c (part ∷ parts) e some good =
    All-cons IsPart (c ∷ part) parts
    (λ none. (let h : c ∷ part ≡ [] = none in cc), All-cons (λ x. is_encodable x ≡ true) c part e (All-head IsPart part parts good).1)
    (All-tail IsPart part parts good)

some_part : (text : List ℕ) → slice_split is_group_separator text ≢ []
some_part [] e = let h : [] ∷ [] ≡ [] = e in cc
some_part (x ∷ xs) e =
    elim (is_group_separator x) as (λ b. cond b ([] ∷ slice_split is_group_separator xs) (onto_first x (slice_split is_group_separator xs)) ≡ [] → ⊥) [
      | true ↦ λ h. (let k : [] ∷ slice_split is_group_separator xs ≡ [] = h in cc)
      | false ↦ λ h. onto_some x (slice_split is_group_separator xs) h
    ] e
  where
    onto_some : (c : ℕ) (parts : List (List ℕ)) → onto_first c parts ≡ [] → ⊥
    onto_some c [] h = let k : (c ∷ []) ∷ [] ≡ [] = h in cc
    onto_some c (part ∷ parts) h = let k : (c ∷ part) ∷ parts ≡ [] = h in cc

-- Characters in front of data.
joined : (text rest : List ℕ) → AllPass is_encodable text → AreSymbolData rest → AreSymbolData (text ++ rest)
joined [] rest good data_rest = data_rest
joined (c ∷ text) rest good data_rest =
    let encodable : is_encodable c ≡ true = All-head (λ x. is_encodable x ≡ true) c text good in
    let below : AreSymbolData (text ++ rest) = joined text rest (All-tail (λ x. is_encodable x ≡ true) c text good) data_rest in
    rw (slice_split-cons_no is_group_separator c (text ++ rest) (unseparated c encodable))
    (onto_part c (slice_split is_group_separator (text ++ rest)) encodable (some_part (text ++ rest)) below)

some_text : (e : Element) → IsReadable e → e.identifier ++ e.value ≢ []
some_text e good none =
    let size : length (e.identifier ++ e.value) ≡ 0 = ap length none in
    let more = length-append e.identifier e.value in
    let long = good.long in
    absurd (omega arith)

-- The string of readable elements is data of a symbol, if there are any.
pub string_data : (elements : List Element) → elements ≢ [] → AllReadable elements → AreSymbolData (string_of elements)
string_data [] some good = absurd (some refl)
string_data (e ∷ []) some good = alone (e.identifier ++ e.value) (some_text e good.0) good.0.encodable
string_data (e ∷ next ∷ elements) some good =
    let rest : AreSymbolData (string_of (next ∷ elements)) =
    string_data (next ∷ elements) (λ none. (let h : next ∷ elements ≡ [] = none in cc)) good.1 in
    elim (is_some (predefined_length e.identifier)) as (λ b.
    AreSymbolData (e.identifier ++ e.value ++ (if b then [] else 0x1d ∷ []) ++ string_of (next ∷ elements))) [
      | true ↦ rw (append-nil (e.identifier ++ e.value)) (joined (e.identifier ++ e.value) (string_of (next ∷ elements)) good.0.encodable rest)
      | false ↦ rw (append_assoc (e.identifier ++ e.value) (0x1d ∷ []) (string_of (next ∷ elements)))
          (separated (e.identifier ++ e.value) (string_of (next ∷ elements)) (some_text e good.0) good.0.encodable rest)
    ]
