-- Data of a symbol are elements, as the encoder takes them.
use Rattle.std.proofs.Common.{◌≡◌, ◌≢◌, ◌⊎◌, inl, inr, ℕ, zero, suc, ◌+◌, ◌-◌, ◌<◌, true, false, cond}
use Rattle.std.proofs.Common.{List, [], ◌∷◌, length, get_or, refl, arith}
use Rattle.std.specs.Prelude.{All}
use Rattle.std.specs.List.{slice_split, onto_first, AllPass}
use Rattle.std.proofs.lemmas.Grind.{common_steps}
use Rattle.std.proofs.lemmas.List.Elements.{All-head, All-tail}
use Rattle.gs1.specs.Identifiers.{is_encodable}
use Rattle.gs1.specs.Reader.{is_group_separator, AreSymbolData}
use Rattle.qrcode_bits.specs.Contents.{is_element_character, AreElements}

abbrev IsPart : List ℕ → Type 0
IsPart part = (part ≢ []) × AllPass is_encodable part

-- Parts of which the first may be empty.
abbrev HasParts : List (List ℕ) → Type 0
HasParts [] = ⊥
HasParts (part ∷ parts) = AllPass is_encodable part × All IsPart parts

-- The byte at a place is a character, or a separator before another byte and after none.
abbrev IsPlaced : List ℕ → ℕ → Type 0
IsPlaced bytes place = (is_element_character (get_or bytes place 0) ≡ true)
    ⊎ ((get_or bytes place 0 ≡ 0x1d) × (place + 1 < length bytes) × (0 < place → get_or bytes (place - 1) 0 ≢ 0x1d))

same_character : (c : ℕ) → is_encodable c ≡ true → is_element_character c ≡ true
unfolding is_element_character
same_character c e = grind (arith, common_steps)

separates : (c : ℕ) → is_group_separator c ≡ true → c ≡ 0x1d
separates c e = grind (arith, common_steps)

-- Whole parts are parts of which the first may be empty.
whole_parts : (parts : List (List ℕ)) → parts ≢ [] → All IsPart parts → HasParts parts
whole_parts [] some good = absurd (some refl)
whole_parts (part ∷ parts) some good = ((All-head IsPart part parts good).1, All-tail IsPart part parts good)

-- Data do not begin with a separator.
not_first : (bytes : List ℕ) → AreSymbolData bytes → get_or bytes 0 0 ≢ 0x1d
not_first [] good e = let h : 0 ≡ 0x1d = e in absurd (omega arith)
not_first (c ∷ bytes) good e =
    elim (is_group_separator c) as (λ b. is_group_separator c ≡ b →
    All IsPart (cond b ([] ∷ slice_split is_group_separator bytes) (onto_first c (slice_split is_group_separator bytes))) → ⊥) [
      | true ↦ λ is parts. (All-head IsPart [] (slice_split is_group_separator bytes) parts).0 refl
      | false ↦ λ is parts. no_separator c is e
    ] refl good
  where
    no_separator : (c : ℕ) → is_group_separator c ≡ false → c ≡ 0x1d → ⊥
    no_separator c is e = grind (arith, common_steps)

-- Data are not empty.
not_empty : (bytes : List ℕ) → AreSymbolData bytes → 0 < length bytes
not_empty [] good = absurd ((All-head IsPart [] [] good).0 refl)
not_empty (c ∷ bytes) good = omega arith

one_less : (n : ℕ) → suc n - 1 ≡ n
one_less n = omega arith

-- A place behind one more byte.
placed_behind : (c : ℕ) (bytes : List ℕ) (place : ℕ) → IsPlaced bytes place →
    (get_or bytes 0 0 ≡ 0x1d → c ≢ 0x1d) → IsPlaced (c ∷ bytes) (suc place)
placed_behind c bytes zero placed edge =
    elim placed as (λ _. IsPlaced (c ∷ bytes) 1) [
      | inl character ↦ inl character
      | inr found ↦ inr (found.0, omega arith, λ _. edge found.0)
    ]
placed_behind c bytes (suc place) placed edge =
    elim placed as (λ _. IsPlaced (c ∷ bytes) (suc (suc place))) [
      | inl character ↦ inl character
      | inr found ↦ inr (found.0, omega arith, λ _. before found.2)
    ]
  where
    before : (0 < suc place → get_or bytes (suc place - 1) 0 ≢ 0x1d) → get_or (c ∷ bytes) (suc (suc place) - 1) 0 ≢ 0x1d
    before h = rw (one_less (suc place)) (let near = rw (one_less place) at h in near (omega arith))

-- There is always a first part.
some_parts : (bytes : List ℕ) → slice_split is_group_separator bytes ≢ []
some_parts [] e = let h : [] ∷ [] ≡ [] = e in cc
some_parts (c ∷ bytes) e =
    elim (is_group_separator c) as (λ b. cond b ([] ∷ slice_split is_group_separator bytes)
    (onto_first c (slice_split is_group_separator bytes)) ≡ [] → ⊥) [
      | true ↦ λ h. (let k : [] ∷ slice_split is_group_separator bytes ≡ [] = h in cc)
      | false ↦ λ h. onto_some c (slice_split is_group_separator bytes) h
    ] e
  where
    onto_some : (c : ℕ) (parts : List (List ℕ)) → onto_first c parts ≡ [] → ⊥
    onto_some c [] h = let k : (c ∷ []) ∷ [] ≡ [] = h in cc
    onto_some c (part ∷ parts) h = let k : (c ∷ part) ∷ parts ≡ [] = h in cc

-- Behind a separator.
at_separator : (c : ℕ) (bytes : List ℕ) (place : ℕ) → place < suc (length bytes) → is_group_separator c ≡ true →
    AreSymbolData bytes → ((k : ℕ) → k < length bytes → IsPlaced bytes k) → IsPlaced (c ∷ bytes) place
at_separator c bytes zero within is good below =
    let more : 0 < length bytes = not_empty bytes good in
    inr (separates c is, omega arith, λ none. absurd (omega arith))
at_separator c bytes (suc place) within is good below =
    placed_behind c bytes place (below place (omega arith)) (λ first. absurd (not_first bytes good first))

-- Behind a character.
at_character : (c : ℕ) (bytes : List ℕ) (place : ℕ) → place < suc (length bytes) → is_encodable c ≡ true →
    ((k : ℕ) → k < length bytes → IsPlaced bytes k) → IsPlaced (c ∷ bytes) place
at_character c bytes zero within is below = inl (same_character c is)
at_character c bytes (suc place) within is below =
    placed_behind c bytes place (below place (omega arith)) (λ first. no_character c is)
  where
    no_character : (c : ℕ) → is_encodable c ≡ true → c ≡ 0x1d → ⊥
    no_character c is e = grind (arith, common_steps)

first_part : (c : ℕ) (parts : List (List ℕ)) → parts ≢ [] → HasParts (onto_first c parts) →
    (is_encodable c ≡ true) × HasParts parts
first_part c [] some has = absurd (some refl)
first_part c (part ∷ parts) some has =
    (All-head (λ x. is_encodable x ≡ true) c part has.0, (All-tail (λ x. is_encodable x ≡ true) c part has.0, has.1))

-- Each byte is a character, or a separator before another byte and after none.
placed : (bytes : List ℕ) → HasParts (slice_split is_group_separator bytes) → (place : ℕ) → place < length bytes →
    IsPlaced bytes place
placed [] parts place within = absurd (omega arith)
placed (c ∷ bytes) parts place within =
    elim (is_group_separator c) as (λ b. is_group_separator c ≡ b →
    HasParts (cond b ([] ∷ slice_split is_group_separator bytes) (onto_first c (slice_split is_group_separator bytes))) →
    IsPlaced (c ∷ bytes) place) [
      | true ↦ λ is has. at_separator c bytes place within is has.1
          (placed bytes (whole_parts (slice_split is_group_separator bytes) (some_parts bytes) has.1))
      | false ↦ λ is has.
          (let first : (is_encodable c ≡ true) × HasParts (slice_split is_group_separator bytes) =
          first_part c (slice_split is_group_separator bytes) (some_parts bytes) has in
          at_character c bytes place within first.0 (placed bytes first.1))
    ] refl parts

-- A separator is behind some byte.
not_at_front : (bytes : List ℕ) (place : ℕ) → AreSymbolData bytes → get_or bytes place 0 ≡ 0x1d → 0 < place
not_at_front bytes zero good e = absurd (not_first bytes good e)
not_at_front bytes (suc place) good e = omega arith

-- Data of a symbol are elements.
pub are_elements : (bytes : List ℕ) → AreSymbolData bytes → AreElements bytes
are_elements bytes good place within =
    elim (placed bytes (whole_parts (slice_split is_group_separator bytes) (some_parts bytes) good) place within)
    as (λ _. (is_element_character (get_or bytes place 0) ≡ true) ⊎ ((get_or bytes place 0 ≡ 0x1d) × (0 < place)
    × (place + 1 < length bytes) × (get_or bytes (place - 1) 0 ≢ 0x1d))) [
      | inl character ↦ inl character
      | inr found ↦ (let behind : 0 < place = not_at_front bytes place good found.0 in
          inr (found.0, behind, found.1, found.2 behind))
    ]
