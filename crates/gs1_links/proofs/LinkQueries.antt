-- The parts of a query: without a fault they are read, and those that are read have none.
use Rattle.std.proofs.Common.{◌≡◌, ℕ, ◌+◌, ◌<◌, Bool, true, false, cond, suc, List, [], ◌∷◌, ◌++◌}
use Rattle.std.proofs.Common.{length, map, drop, take, refl, arith, ap, sym, subst, ◌∙◌, length-append}
use Rattle.std.specs.Prelude.{All, None, Some, ◌==◌, ◌||◌}
use Rattle.std.specs.List.{before_first, after_first, position_or_len, list_all, list_any}
use Rattle.std.proofs.lemmas.Grind.{common_steps}
use Rattle.std.proofs.lemmas.List.Elements.{All-nil, All-cons, All-head, All-tail}
use Rattle.gs1.specs.Elements.{Element}
use Rattle.gs1.specs.Values.{element_error}
use Rattle.gs1_links.specs.Links.{number, is_attribute}
use Rattle.gs1_links.specs.LinkReader.{ReadsQuery, has_twins}
use Rattle.gs1_links.specs.LinkFaults.{decoded, decoded_element, written_fault, is_equals, part_element, equals_fault, attribute_fault}
use Rattle.gs1_links.specs.LinkFaults.{part_fault, query_fault, is_part_of, twin_fault, twins_fault}
use Rattle.gs1_links.specs.declared.link_error.LinkReadError.TheVariants.{NoEqualsSign, WrongAttribute, RepeatedElement}
use Rattle.gs1.proofs.Faults.{both, neither}
use Rattle.gs1_links.proofs.LinkValues.{reads_decoded, decoded_reads}
use Rattle.gs1_links.proofs.LinkElements.{IsLinkable}
use Rattle.gs1_links.proofs.LinkCuts.{IsFree, before_at, after_at}
use Rattle.gs1_links.proofs.OneLink.{no_equals}
use Rattle.gs1_links.proofs.LinkReadBack.{sound_written, written_none, same_value}

-- The element of a part, its value without escapes.
abbrev pub read_part : List ℕ → Element
read_part part = decoded_element (part_element part)

-- ---- The equals sign

before_no : (c : ℕ) (part : List ℕ) → is_equals c ≡ false → before_first is_equals (c ∷ part) ≡ c ∷ before_first is_equals part
before_no c part e =
    rw e (let h : 1 + position_or_len is_equals part ≡ suc (position_or_len is_equals part) = omega arith in ap (λ j. take j (c ∷ part)) h)

after_no : (c : ℕ) (part : List ℕ) → is_equals c ≡ false → after_first is_equals (c ∷ part) ≡ after_first is_equals part
after_no c part e =
    rw e (let h : 1 + position_or_len is_equals part + 1 ≡ suc (position_or_len is_equals part + 1) = omega arith in ap (λ j. drop j (c ∷ part)) h)

before_yes : (c : ℕ) (part : List ℕ) → is_equals c ≡ true → before_first is_equals (c ∷ part) ≡ []
before_yes c part e = rw e refl

after_yes : (c : ℕ) (part : List ℕ) → is_equals c ≡ true → after_first is_equals (c ∷ part) ≡ part
after_yes c part e = rw e refl

equals_is : (c : ℕ) → is_equals c ≡ true → c ≡ 0x3d
equals_is c e = grind (arith, common_steps)

position_no : (c : ℕ) (part : List ℕ) → is_equals c ≡ false →
    (position_or_len is_equals (c ∷ part) == length (c ∷ part)) ≡ (position_or_len is_equals part == length part)
position_no c part e =
    rw e (same (position_or_len is_equals part) (length part))
  where
    same : (m n : ℕ) → (1 + m == suc n) ≡ (m == n)
    same m n = grind (arith, common_steps)

-- A part with an equals sign is an identifier, this sign and a text.
part_is : (part : List ℕ) → (position_or_len is_equals part == length part) ≡ false →
    part ≡ before_first is_equals part ++ 0x3d ∷ after_first is_equals part
part_is [] some = absurd (let h : true ≡ false = some in cc)
part_is (c ∷ part) some =
    elim (is_equals c) as (λ b. is_equals c ≡ b → c ∷ part ≡ before_first is_equals (c ∷ part) ++ 0x3d ∷ after_first is_equals (c ∷ part)) [
      | true ↦ λ e.
          ap (λ x. x ∷ part) (equals_is c e)
          ∙ ap (λ xs. 0x3d ∷ xs) (sym (after_yes c part e))
          ∙ ap (λ xs. xs ++ 0x3d ∷ after_first is_equals (c ∷ part)) (sym (before_yes c part e))
      | false ↦ λ e.
          (let below = part_is part (sym (position_no c part e) ∙ some) in
          ap (λ xs. c ∷ xs) below
          ∙ ap (λ xs. (c ∷ before_first is_equals part) ++ 0x3d ∷ xs) (sym (after_no c part e))
          ∙ ap (λ xs. xs ++ 0x3d ∷ after_first is_equals (c ∷ part)) (sym (before_no c part e)))
    ] refl

has_equals : (place : ℕ) (part : List ℕ) → equals_fault place part ≡ None → (position_or_len is_equals part == length part) ≡ false
unfolding equals_fault
has_equals place part none = no (position_or_len is_equals part == length part) none
  where
    no : (b : Bool) → cond b (Some (NoEqualsSign place)) None ≡ None → b ≡ false
    no true e = absurd (let h : Some (NoEqualsSign place) ≡ None = e in cc)
    no false e = refl

attribute_is : (key place : ℕ) (e : Element) → attribute_fault key place e ≡ None → is_attribute key e ≡ true
unfolding attribute_fault
attribute_is key place e none = yes (is_attribute key e) none
  where
    yes : (b : Bool) → cond b None (Some (WrongAttribute place (number e))) ≡ None → b ≡ true
    yes true h = refl
    yes false h = absurd (let k : Some (WrongAttribute place (number e)) ≡ None = h in cc)

-- ---- Parts without a fault

-- What they are.
pub record AreSoundParts (key : ℕ) (parts : List (List ℕ)) : Type 0 where
  pub reads : ReadsQuery parts (map read_part parts)
  pub allowed : All (λ e. element_error 0 e ≡ None) (map read_part parts)
  pub attributes : list_all (is_attribute key) (map read_part parts) ≡ true

pub sound_parts : (key place : ℕ) (parts : List (List ℕ)) → query_fault key place parts ≡ None → AreSoundParts key parts
sound_parts key place [] none = record { reads = refl; allowed = All-nil (λ e. element_error 0 e ≡ None); attributes = refl }
sound_parts key place (part ∷ parts) none =
    let one = neither (part_fault key place part) (query_fault key (place + 1) parts) none in
    let two = neither (equals_fault place part) _ one.0 in
    let three = neither (written_fault place (part_element part)) (attribute_fault key place (part_element part)) two.1 in
    let good = sound_written place (part_element part) three.0 in
    let attribute : is_attribute key (read_part part) ≡ true = attribute_is key place (part_element part) three.1 in
    let below = sound_parts key (place + 1) parts one.1 in
    let cut = part_is part (has_equals place part two.0) in
    record {
      reads = (
        after_first is_equals part,
        parts,
        ap (λ p. p ∷ parts) cut,
        decoded_reads (after_first is_equals part) good.readable,
        below.reads,
      );
      allowed = All-cons (λ e. element_error 0 e ≡ None) (read_part part) (map read_part parts) good.allowed below.allowed;
      attributes = rw attribute below.attributes;
    }

-- ---- Parts that are read

-- The part of an element.
part_element_is : (e : Element) (text : List ℕ) → IsLinkable e →
    part_element (e.identifier ++ 0x3d ∷ text) ≡ (let x : Element = record { identifier = e.identifier; value = text } in x)
part_element_is e text good =
    same (before_at is_equals e.identifier 0x3d text (no_equals e good) refl) (after_at is_equals e.identifier 0x3d text (no_equals e good) refl)
  where
    same : {i j v w : List ℕ} → i ≡ j → v ≡ w → (let x : Element = record { identifier = i; value = v } in x) ≡ (let x : Element = record { identifier = j; value = w } in x)
    same a b = cc

-- These elements are found.
pub parts_are : (parts : List (List ℕ)) (elements : List Element) → ReadsQuery parts elements → All IsLinkable elements →
    map read_part parts ≡ elements
parts_are parts [] reads good = ap (map read_part) reads
parts_are parts (e ∷ elements) reads good =
    let found = reads_decoded reads.0 e.value reads.3 in
    let one : read_part (e.identifier ++ 0x3d ∷ reads.0) ≡ e =
    ap decoded_element (part_element_is e reads.0 (All-head IsLinkable e elements good))
    ∙ same_value e.identifier (decoded reads.0) e.value found.1 in
    ap (map read_part) reads.2
    ∙ ap (λ x. x ∷ map read_part reads.1) one
    ∙ ap (λ xs. e ∷ xs) (parts_are reads.1 elements reads.4 (All-tail IsLinkable e elements good))

equals_none : (place : ℕ) (identifier text : List ℕ) → IsFree is_equals identifier → equals_fault place (identifier ++ 0x3d ∷ text) ≡ None
unfolding equals_fault
equals_none place identifier text free =
    let before = before_at is_equals identifier 0x3d text free refl in
    let size : length identifier < length (identifier ++ 0x3d ∷ text) = omega (arith, length-append identifier (0x3d ∷ text)) in
    differs (position_or_len is_equals (identifier ++ 0x3d ∷ text)) (identifier ++ 0x3d ∷ text) identifier before size
  where
    same_number : (m n : ℕ) → (m == n) ≡ true → m ≡ n
    same_number m n e = grind (arith, common_steps)

    whole : (n : ℕ) (xs ys : List ℕ) → n ≡ length xs → take n xs ≡ ys → length ys < length xs → ⊥
    whole n xs ys is e less = grind (arith, common_steps)

    differs : (n : ℕ) (xs ys : List ℕ) → take n xs ≡ ys → length ys < length xs → cond (n == length xs) (Some (NoEqualsSign place)) None ≡ None
    differs n xs ys e less = elim (n == length xs) as (λ b. (n == length xs) ≡ b → cond b (Some (NoEqualsSign place)) None ≡ None) [
      | true ↦ λ is. absurd (whole n xs ys (same_number n (length xs) is) e less)
      | false ↦ λ is. refl
    ] refl

attribute_none : (key place : ℕ) (e : Element) → is_attribute key e ≡ true → attribute_fault key place e ≡ None
unfolding attribute_fault
attribute_none key place e is = rw is refl

pub query_none : (key place : ℕ) (parts : List (List ℕ)) (elements : List Element) → ReadsQuery parts elements →
    All IsLinkable elements → list_all (is_attribute key) elements ≡ true → query_fault key place parts ≡ None
query_none key place parts [] reads good all = ap (query_fault key place) reads
query_none key place parts (e ∷ elements) reads good all =
    let first = All-head IsLinkable e elements good in
    let each = both (is_attribute key e) (list_all (is_attribute key) elements) all in
    let part : List ℕ = e.identifier ++ 0x3d ∷ reads.0 in
    let raw : Element = record { identifier = e.identifier; value = reads.0 } in
    let is : part_element part ≡ raw = part_element_is e reads.0 first in
    let written : written_fault place (part_element part) ≡ None =
    subst (λ x. written_fault place x ≡ None) (sym is) (written_none place e.identifier reads.0 e.value reads.3 first.allowed) in
    let attribute : attribute_fault key place (part_element part) ≡ None =
    subst (λ x. attribute_fault key place x ≡ None) (sym is) (attribute_none key place raw each.0) in
    let below = query_none key (place + 1) reads.1 elements reads.4 (All-tail IsLinkable e elements good) each.1 in
    ap (query_fault key place) reads.2
    ∙ rw (equals_none place e.identifier reads.0 (no_equals e first), written, attribute) below

-- ---- Twins

any_part : (n : ℕ) (parts : List (List ℕ)) →
    list_any (λ other. number other == n) (map read_part parts) ≡ list_any (is_part_of n) parts
any_part n [] = refl
any_part n (part ∷ parts) = ap (λ b. (number (part_element part) == n) || b) (any_part n parts)

pub no_twins : (place : ℕ) (parts : List (List ℕ)) → twins_fault place parts ≡ None → has_twins (map read_part parts) ≡ false
unfolding twin_fault
no_twins place [] none = refl
no_twins place (part ∷ parts) none =
    let n : ℕ = number (part_element part) in
    let split = neither (twin_fault place n parts) (twins_fault (place + 1) parts) none in
    rw (any_part n parts ∙ no (list_any (is_part_of n) parts) n split.0) (no_twins (place + 1) parts split.1)
  where
    no : (b : Bool) (n : ℕ) → cond b (Some (RepeatedElement place n)) None ≡ None → b ≡ false
    no true n e = absurd (let h : Some (RepeatedElement place n) ≡ None = e in cc)
    no false n e = refl

neither_true : (a b : Bool) → (a || b) ≡ false → (a ≡ false) × (b ≡ false)
neither_true true b e = absurd (let h : true ≡ false = e in cc)
neither_true false b e = (refl, e)

pub twins_none : (place : ℕ) (parts : List (List ℕ)) → has_twins (map read_part parts) ≡ false → twins_fault place parts ≡ None
unfolding twin_fault
twins_none place [] none = refl
twins_none place (part ∷ parts) none =
    let n : ℕ = number (part_element part) in
    let split = neither_true (list_any (λ other. number other == n) (map read_part parts)) (has_twins (map read_part parts)) none in
    rw (sym (any_part n parts) ∙ split.0) (twins_none (place + 1) parts split.1)
