-- How the text of a link is cut: into its path and its query, its segments and its parts.
use Rattle.std.proofs.Common.{◌≡◌, ◌≢◌, ℕ, ◌+◌, ◌<◌, Bool, true, false, cond, suc, List, [], ◌∷◌, ◌++◌}
use Rattle.std.proofs.Common.{length, take, drop, refl, arith, ap, sym, ◌∙◌, append_assoc, length-append}
use Rattle.std.specs.Prelude.{All}
use Rattle.std.specs.List.{slice_split, onto_first, position_or_len, before_first, after_first, flat_map}
use Rattle.std.proofs.lemmas.List.{take_at, drop_at, drop_all, append-nil}
use Rattle.std.proofs.lemmas.List.Elements.{All-nil, All-head, All-tail}
use Rattle.std.proofs.lemmas.List.Splits.{slice_split_none, slice_split_at}

-- No element of the list passes the test.
abbrev pub IsFree : (ℕ → Bool) → List ℕ → Type 0
IsFree p xs = All (λ x. p x ≡ false) xs

abbrev pub AreFree : (ℕ → Bool) → List (List ℕ) → Type 0
AreFree p [] = Unit {0}
AreFree p (piece ∷ pieces) = IsFree p piece × AreFree p pieces

-- The first that passes stands behind those that do not.
position_behind : (p : ℕ → Bool) (front rest : List ℕ) → IsFree p front →
    position_or_len p (front ++ rest) ≡ length front + position_or_len p rest
position_behind p [] rest free = let h : position_or_len p rest ≡ 0 + position_or_len p rest = omega arith in h
position_behind p (x ∷ front) rest free =
    let no : p x ≡ false = All-head (λ c. p c ≡ false) x front free in
    let below = position_behind p front rest (All-tail (λ c. p c ≡ false) x front free) in
    rw no (let h : 1 + position_or_len p (front ++ rest) ≡ suc (length front) + position_or_len p rest = omega (arith, below) in h)

pub before_free : (p : ℕ → Bool) (front : List ℕ) → IsFree p front → before_first p front ≡ front
before_free p front free =
    let at : position_or_len p (front ++ []) ≡ length front + 0 = position_behind p front [] free in
    let whole : front ++ [] ≡ front = append-nil front in
    let at' : position_or_len p front ≡ length front = omega (arith, sym (ap (position_or_len p) whole) ∙ at) in
    rw at' (ap (take (length front)) (sym whole) ∙ take_at front [] (length front) refl)

pub after_free : (p : ℕ → Bool) (front : List ℕ) → IsFree p front → after_first p front ≡ []
after_free p front free =
    let at : position_or_len p (front ++ []) ≡ length front + 0 = position_behind p front [] free in
    let whole : front ++ [] ≡ front = append-nil front in
    let at' : position_or_len p front ≡ length front = omega (arith, sym (ap (position_or_len p) whole) ∙ at) in
    rw at' (past (length front + 1) front (omega arith))
  where
    past : (n : ℕ) (xs : List ℕ) → length xs < n → drop n xs ≡ []
    past n xs long = grind (arith, drop_all)

zero_at : (p : ℕ → Bool) (c : ℕ) (rest : List ℕ) → p c ≡ true → position_or_len p (c ∷ rest) ≡ 0
zero_at p c rest passes = rw passes refl

pub before_at : (p : ℕ → Bool) (front : List ℕ) (c : ℕ) (rest : List ℕ) → IsFree p front → p c ≡ true →
    before_first p (front ++ c ∷ rest) ≡ front
before_at p front c rest free passes =
    let at : position_or_len p (front ++ c ∷ rest) ≡ length front =
    omega (arith, position_behind p front (c ∷ rest) free, zero_at p c rest passes) in
    rw at (take_at front (c ∷ rest) (length front) refl)

pub after_at : (p : ℕ → Bool) (front : List ℕ) (c : ℕ) (rest : List ℕ) → IsFree p front → p c ≡ true →
    after_first p (front ++ c ∷ rest) ≡ rest
after_at p front c rest free passes =
    let at : position_or_len p (front ++ c ∷ rest) ≡ length front =
    omega (arith, position_behind p front (c ∷ rest) free, zero_at p c rest passes) in
    let one : front ++ c ∷ rest ≡ (front ++ c ∷ []) ++ rest = sym (append_assoc front (c ∷ []) rest) in
    let size : length (front ++ c ∷ []) ≡ length front + 1 = omega (arith, length-append front (c ∷ [])) in
    rw at (ap (drop (length front + 1)) one ∙ drop_at (front ++ c ∷ []) rest (length front + 1) size)

-- Pieces, each but the first behind a separator.
pub split_pieces : (p : ℕ → Bool) (c : ℕ) → p c ≡ true → (first : List ℕ) (pieces : List (List ℕ)) → IsFree p first →
    AreFree p pieces → slice_split p (first ++ flat_map (λ piece. c ∷ piece) pieces) ≡ first ∷ pieces
split_pieces p c passes first [] free all = rw (append-nil first) (slice_split_none p first free)
split_pieces p c passes first (piece ∷ pieces) free all =
    slice_split_at p first c (piece ++ flat_map (λ x. c ∷ x) pieces) free passes
    ∙ ap (λ xs. first ∷ xs) (split_pieces p c passes piece pieces all.0 all.1)

onto_more : (x : ℕ) (parts pieces : List (List ℕ)) → parts ≢ [] → onto_first x (parts ++ pieces) ≡ onto_first x parts ++ pieces
onto_more x [] pieces some = absurd (some refl)
onto_more x (part ∷ parts) pieces some = refl

-- There is always a first part.
some_parts : (p : ℕ → Bool) (xs : List ℕ) → slice_split p xs ≢ []
some_parts p [] e = let h : [] ∷ [] ≡ [] = e in cc
some_parts p (x ∷ xs) e =
    elim (p x) as (λ b. cond b ([] ∷ slice_split p xs) (onto_first x (slice_split p xs)) ≡ [] → ⊥) [
      | true ↦ λ h. (let k : [] ∷ slice_split p xs ≡ [] = h in cc)
      | false ↦ λ h. onto_some x (slice_split p xs) h
    ] e
  where
    onto_some : (x : ℕ) (parts : List (List ℕ)) → onto_first x parts ≡ [] → ⊥
    onto_some x [] h = let k : (x ∷ []) ∷ [] ≡ [] = h in cc
    onto_some x (part ∷ parts) h = let k : (x ∷ part) ∷ parts ≡ [] = h in cc

-- Pieces behind a text that is cut itself.
pub split_behind : (p : ℕ → Bool) (c : ℕ) → p c ≡ true → (front : List ℕ) (pieces : List (List ℕ)) → AreFree p pieces →
    slice_split p (front ++ flat_map (λ piece. c ∷ piece) pieces) ≡ slice_split p front ++ pieces
split_behind p c passes [] pieces all = split_pieces p c passes [] pieces (All-nil (λ x. p x ≡ false)) all
split_behind p c passes (x ∷ front) pieces all =
    let back : List ℕ = flat_map (λ piece. c ∷ piece) pieces in
    let below = split_behind p c passes front pieces all in
    elim (p x) as (λ b. cond b ([] ∷ slice_split p (front ++ back)) (onto_first x (slice_split p (front ++ back)))
    ≡ cond b ([] ∷ slice_split p front) (onto_first x (slice_split p front)) ++ pieces) [
      | true ↦ ap (λ parts. [] ∷ parts) below
      | false ↦ ap (onto_first x) below ∙ onto_more x (slice_split p front) pieces (some_parts p front)
    ]
