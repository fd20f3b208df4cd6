-- Elements of links: what the table says of their bytes, and which stand in the path and the query.
use Rattle.std.proofs.Common.{◌≡◌, ℕ, ◌+◌, ◌<◌, Bool, true, false, cond, List, [], ◌∷◌, ◌++◌}
use Rattle.std.proofs.Common.{map, refl, arith, ap, sym, subst, ◌∙◌, inl, inr, add-one}
use Rattle.std.specs.Prelude.{All, Option, None, Some, is_some, ◌||◌, ◌==◌, ◌⊎◌, if◌then◌else◌, slice_get, unwrap_or}
use Rattle.std.specs.List.{flat_map, filter, list_all, list_any}
use Rattle.std.specs.Option.{option_map, option_and_then, option_to_list}
use Rattle.std.proofs.lemmas.Grind.{common_steps}
use Rattle.std.proofs.lemmas.List.Elements.{All-nil, All-cons, All-weaker}
use Rattle.std.proofs.lemmas.List.Sums.{AllPass-from_list_all}
use Rattle.std.proofs.lemmas.Option.{get_or_from_slice_get, slice_get_within}
use Rattle.gs1.specs.Identifiers.{is_encodable}
use Rattle.gs1_base.specs.Characters.{is_decimal_digit}
use Rattle.gs1.specs.Elements.{Element}
use Rattle.gs1.specs.Values.{element_error, first_error, identifier_error, value_error}
use Rattle.gs1.specs.Together.{is_among, first_among}
use Rattle.gs1_links.specs.Links.{keys, number, is_attribute, order_of, has_second, place_with, element_with}
use Rattle.gs1_links.specs.Links.{primary_key, order_for, qualifier_order, first_rule_fault, no_key_fault}
use Rattle.gs1_links.specs.Links.{qualifier_fault, later_fault, second_key_fault, repeated_fault}
use Rattle.gs1_links.specs.LinkReader.{follows, has_twins}
use Rattle.gs1_links.specs.declared.link_error.LinkError.{LinkError}
use Rattle.gs1_links.specs.declared.link_error.LinkError.TheVariants.{NoKey}
use Rattle.gs1.proofs.Faults.{neither, both}
use Rattle.gs1.proofs.Allowed.{identifier_tests, none_mapped, allowed_value}

-- ---- What the table says

-- What the proofs need of an element that the table allows.
pub record IsLinkable (e : Element) : Type 0 where
  pub digits : All (λ c. is_decimal_digit c ≡ true) e.identifier
  pub small : All (λ c. c < 256) e.value
  pub allowed : element_error 0 e ≡ None

-- The number of the element does not matter.
any_identifier : (m n : ℕ) (identifier : List ℕ) → identifier_error m identifier ≡ None → identifier_error n identifier ≡ None
unfolding identifier_error
any_identifier m n identifier none = let tests = identifier_tests m identifier none in rw (tests.0, tests.1) refl

any_value : (m n : ℕ) (identifier value : List ℕ) → value_error m identifier value ≡ None → value_error n identifier value ≡ None
unfolding value_error
any_value m n identifier value none = let e = none_mapped _ _ none in rw e refl

pub any_place : (m n : ℕ) (e : Element) → element_error m e ≡ None → element_error n e ≡ None
unfolding element_error
any_place m n e none =
    let split = neither (identifier_error m e.identifier) _ none in
    rw (any_identifier m n e.identifier split.0) (any_value m n e.identifier e.value split.1)

encodable_small : (c : ℕ) → is_encodable c ≡ true → c < 256
encodable_small c e = grind (arith, common_steps)

pub linkable : (n : ℕ) (e : Element) → element_error n e ≡ None → IsLinkable e
unfolding element_error
linkable n e none =
    let split = neither (identifier_error n e.identifier) _ none in
    let tests = both _ (list_all is_decimal_digit e.identifier) (identifier_tests n e.identifier split.0).0 in
    record {
      digits = AllPass-from_list_all is_decimal_digit e.identifier tests.1;
      small = All-weaker (λ c. is_encodable c ≡ true) (λ c. c < 256) encodable_small e.value (allowed_value n e none);
      allowed = any_place n 0 e none;
    }

pub all_linkable : (n : ℕ) (elements : List Element) → first_error n elements ≡ None → All IsLinkable elements
all_linkable n [] none = All-nil IsLinkable
all_linkable n (e ∷ elements) none =
    let split = neither (element_error n e) (first_error (n + 1) elements) none in
    All-cons IsLinkable e elements (linkable n e split.0) (all_linkable (n + 1) elements split.1)

-- ---- The first of a range

-- Where it is found.
pub record IsFoundAmong (ranges : List (ℕ × ℕ)) (elements : List Element) (k : ℕ) : Type 0 where
  pub element : Element
  pub here : slice_get elements k ≡ Some element
  pub among : is_among ranges (number element) ≡ true

at_next : (e : Element) (elements : List Element) (k : ℕ) → slice_get (e ∷ elements) (k + 1) ≡ slice_get elements k
at_next e elements k = ap (slice_get (e ∷ elements)) (add-one k)

found : (ranges : List (ℕ × ℕ)) (start : ℕ) (elements : List Element) (place : ℕ) →
    first_among ranges start elements ≡ Some place → (k : ℕ) × (place ≡ start + k) × IsFoundAmong ranges elements k
found ranges start [] place is = absurd (let h : None ≡ Some place = is in cc)
found ranges start (e ∷ elements) place is =
    elim (is_among ranges (number e)) as (λ b. is_among ranges (number e) ≡ b →
    cond b (Some start) (first_among ranges (start + 1) elements) ≡ Some place →
    (k : ℕ) × (place ≡ start + k) × IsFoundAmong ranges (e ∷ elements) k) [
      | true ↦ λ yes h. (
        0,
        (let same : start ≡ place = some_same start place h in omega arith),
        record { element = e; here = refl; among = yes },
      )
      | false ↦ λ no h.
          (let later = found ranges (start + 1) elements place h in (
            later.0 + 1,
            omega (arith, later.1),
            record { element = later.2.element; here = at_next e elements later.0 ∙ later.2.here; among = later.2.among },
          ))
    ] refl is
  where
    some_same : (m n : ℕ) → Some m ≡ Some n → m ≡ n
    some_same m n e = cc

-- The element that is found among ranges.
pub among_of : (ranges : List (ℕ × ℕ)) (elements : List Element) (e : Element) →
    option_and_then (λ place. slice_get elements place) (first_among ranges 0 elements) ≡ Some e →
    is_among ranges (number e) ≡ true
among_of ranges elements e is =
    elim (first_among ranges 0 elements) as (λ o. first_among ranges 0 elements ≡ o →
    option_and_then (λ place. slice_get elements place) o ≡ Some e → is_among ranges (number e) ≡ true) [
      | None ↦ λ at h. absurd (let none : None ≡ Some e = h in cc)
      | Some place ↦ λ at h.
          (let there = found ranges 0 elements place at in
          let same : place ≡ there.0 = omega (arith, there.1) in
          let one : Some there.2.element ≡ Some e = sym there.2.here ∙ sym (ap (slice_get elements) same) ∙ h in
          let P : Element → Type 0 = λ x. is_among ranges (number x) ≡ true in
          subst P (let e2 : there.2.element ≡ e = cc in e2) there.2.among)
    ] refl is

-- Facts of all elements hold of it.
pub holds_at : (P : Element → Type 0) (elements : List Element) (k : ℕ) (e : Element) → All P elements →
    slice_get elements k ≡ Some e → P e
holds_at P elements k e all is =
    subst P (get_or_from_slice_get elements k e e is) (all k e (slice_get_within elements k e is))

pub holds_of : (P : Element → Type 0) (ranges : List (ℕ × ℕ)) (elements : List Element) (e : Element) → All P elements →
    option_and_then (λ place. slice_get elements place) (first_among ranges 0 elements) ≡ Some e → P e
holds_of P ranges elements e all is =
    elim (first_among ranges 0 elements) as (λ o.
    option_and_then (λ place. slice_get elements place) o ≡ Some e → P e) [
      | None ↦ λ h. absurd (let none : None ≡ Some e = h in cc)
      | Some place ↦ λ h. holds_at P elements place e all h
    ] is

-- ---- The path

follows_rest : (n : ℕ) (numbers order : List ℕ) → follows (n ∷ numbers) order ≡ true → follows numbers order ≡ true
follows_rest n [] order is = refl
follows_rest n (m ∷ numbers) [] is = absurd (let h : false ≡ true = is in cc)
follows_rest n (m ∷ numbers) (o ∷ order) is =
    elim (o == n) as (λ b. cond b (follows (m ∷ numbers) order) (follows (n ∷ m ∷ numbers) order) ≡ true →
    follows (m ∷ numbers) (o ∷ order) ≡ true) [
      | true ↦ λ h. here h (follows_rest m numbers order h)
      | false ↦ λ h.
          (let later = follows_rest n (m ∷ numbers) order h in here later (follows_rest m numbers order later))
    ] is
  where
    here : follows (m ∷ numbers) order ≡ true → follows numbers order ≡ true → follows (m ∷ numbers) (o ∷ order) ≡ true
    here k rest =
        elim (o == m) as (λ b. cond b (follows numbers order) (follows (m ∷ numbers) order) ≡ true) [
          | true ↦ rest
          | false ↦ k
        ]

follows_more : (o : ℕ) (numbers order : List ℕ) → follows numbers order ≡ true → follows numbers (o ∷ order) ≡ true
follows_more o [] order is = refl
follows_more o (n ∷ numbers) order is =
    elim (o == n) as (λ b. cond b (follows numbers order) (follows (n ∷ numbers) order) ≡ true) [
      | true ↦ follows_rest n numbers order is
      | false ↦ is
    ]

within_one : (n m : ℕ) → is_among ((n, n) ∷ []) m ≡ true → m ≡ n
within_one n m e = grind (arith, common_steps)

same_true : (n : ℕ) → (n == n) ≡ true
same_true n = grind (arith, common_steps)

-- The qualifiers of a path.
abbrev pub qualifying : List ℕ → List Element → List Element
qualifying order elements = flat_map (λ n. option_to_list (element_with n elements)) order

pub in_order : (elements : List Element) (order : List ℕ) → follows (map number (qualifying order elements)) order ≡ true
in_order elements [] = refl
in_order elements (n ∷ order) =
    elim (element_with n elements) as (λ o. element_with n elements ≡ o →
    follows (map number (option_to_list o ++ qualifying order elements)) (n ∷ order) ≡ true) [
      | None ↦ λ is. follows_more n (map number (qualifying order elements)) order (in_order elements order)
      | Some e ↦ λ is.
          (let same : number e ≡ n = within_one n (number e) (among_of ((n, n) ∷ []) elements e is) in
          let P : ℕ → Type 0 = λ m. cond (n == m) (follows (map number (qualifying order elements)) order)
          (follows (m ∷ map number (qualifying order elements)) order) ≡ true in
          subst P (sym same) (rw (same_true n) (in_order elements order)))
    ] refl

pub all_qualifying : (P : Element → Type 0) (elements : List Element) (order : List ℕ) → All P elements →
    All P (qualifying order elements)
all_qualifying P elements [] all = All-nil P
all_qualifying P elements (n ∷ order) all =
    elim (element_with n elements) as (λ o. element_with n elements ≡ o →
    All P (option_to_list o ++ qualifying order elements)) [
      | None ↦ λ is. all_qualifying P elements order all
      | Some e ↦ λ is. All-cons P e (qualifying order elements) (holds_of P ((n, n) ∷ []) elements e all is)
          (all_qualifying P elements order all)
    ] refl

-- ---- The query

pub all_attributes : (key : ℕ) (elements : List Element) → list_all (is_attribute key) (filter (is_attribute key) elements) ≡ true
all_attributes key [] = refl
all_attributes key (e ∷ elements) =
    elim (is_attribute key e) as (λ b. is_attribute key e ≡ b →
    list_all (is_attribute key) (cond b (e ∷ filter (is_attribute key) elements) (filter (is_attribute key) elements)) ≡ true) [
      | true ↦ λ yes. rw yes (all_attributes key elements)
      | false ↦ λ no. all_attributes key elements
    ] refl

-- None of the elements has this number.
none_of : (n start : ℕ) (elements : List Element) → first_among ((n, n) ∷ []) start elements ≡ None →
    list_any (λ other. number other == n) elements ≡ false
none_of n start [] none = refl
none_of n start (e ∷ elements) none =
    elim (is_among ((n, n) ∷ []) (number e)) as (λ b. is_among ((n, n) ∷ []) (number e) ≡ b →
    cond b (Some start) (first_among ((n, n) ∷ []) (start + 1) elements) ≡ None →
    ((number e == n) || list_any (λ other. number other == n) elements) ≡ false) [
      | true ↦ λ yes h. absurd (let k : Some start ≡ None = h in cc)
      | false ↦ λ no h. rw (other_number n (number e) no) (none_of n (start + 1) elements h)
    ] refl none
  where
    other_number : (n m : ℕ) → is_among ((n, n) ∷ []) m ≡ false → (m == n) ≡ false
    other_number n m e = grind (arith, common_steps)

filtered : (p test : Element → Bool) (elements : List Element) → list_any test elements ≡ false →
    list_any test (filter p elements) ≡ false
filtered p test [] none = refl
filtered p test (e ∷ elements) none =
    let parts = neither_true (test e) (list_any test elements) none in
    elim (p e) as (λ b. list_any test (cond b (e ∷ filter p elements) (filter p elements)) ≡ false) [
      | true ↦ rw parts.0 (filtered p test elements parts.1)
      | false ↦ filtered p test elements parts.1
    ]
  where
    neither_true : (a b : Bool) → (a || b) ≡ false → (a ≡ false) × (b ≡ false)
    neither_true true b e = absurd (let h : true ≡ false = e in cc)
    neither_true false b e = (refl, e)

pub alone : (place n : ℕ) (later : List Element) → repeated_fault place n later ≡ None → place_with n later ≡ None
unfolding repeated_fault
alone place n later none = nothing (place_with n later) _ none
  where
    nothing : (o : Option ℕ) (x : LinkError) → (if is_some o then Some x else None) ≡ None → o ≡ None
    nothing None x e = refl
    nothing (Some n) x e = absurd (let h : Some x ≡ None = e in cc)

pub no_twins : (key : ℕ) (order : List ℕ) (place : ℕ) (elements : List Element) → first_rule_fault order place elements ≡ None →
    has_twins (filter (is_attribute key) elements) ≡ false
no_twins key order place [] none = refl
no_twins key order place (e ∷ elements) none =
    let first = neither (qualifier_fault order place (number e)) _ none in
    let second = neither (later_fault place (number e) elements) (first_rule_fault order (place + 1) elements) first.1 in
    let third = neither (second_key_fault place (number e) elements) (repeated_fault place (number e) elements) second.0 in
    let single = filtered (is_attribute key) (λ other. number other == number e) elements (none_of (number e) 0 elements (alone place (number e) elements third.1)) in
    let below = no_twins key order (place + 1) elements second.1 in
    elim (is_attribute key e) as (λ b. has_twins (cond b (e ∷ filter (is_attribute key) elements) (filter (is_attribute key) elements)) ≡ false) [
      | true ↦ rw single below
      | false ↦ below
    ]

-- ---- The key

pub some_key : (elements : List Element) → no_key_fault elements ≡ None → (e : Element) × (primary_key elements ≡ Some e)
unfolding no_key_fault
some_key elements none =
    elim (first_among keys 0 elements) as (λ o. first_among keys 0 elements ≡ o → (if is_some o then None else Some NoKey) ≡ None →
    (e : Element) × (option_and_then (λ place. slice_get elements place) o ≡ Some e)) [
      | None ↦ λ is h. absurd (let k : Some NoKey ≡ None = h in cc)
      | Some place ↦ λ is h.
          (let there = found keys 0 elements place is in
          let same : place ≡ there.0 = omega (arith, there.1) in
          (there.2.element, ap (slice_get elements) same ∙ there.2.here))
    ] refl none

pub key_order : (elements : List Element) (key : Element) → primary_key elements ≡ Some key →
    (follows (map number (qualifying (qualifier_order elements) elements)) (order_of (number key) false) ≡ true)
    ⊎ (follows (map number (qualifying (qualifier_order elements) elements)) (order_of (number key) true) ≡ true)
key_order elements key is =
    let same : qualifier_order elements ≡ order_for elements (number key) = ap (λ o. order_for elements (unwrap_or (option_map number o) 0)) is in
    let follow = in_order elements (qualifier_order elements) in
    elim (has_second elements (number key)) as (λ b. qualifier_order elements ≡ order_of (number key) b →
    (follows (map number (qualifying (qualifier_order elements) elements)) (order_of (number key) false) ≡ true)
    ⊎ (follows (map number (qualifying (qualifier_order elements) elements)) (order_of (number key) true) ≡ true)) [
      | true ↦ λ e. inr (let P : List ℕ → Type 0 = λ o. follows (map number (qualifying (qualifier_order elements) elements)) o ≡ true in subst P e follow)
      | false ↦ λ e. inl (let P : List ℕ → Type 0 = λ o. follows (map number (qualifying (qualifier_order elements) elements)) o ≡ true in subst P e follow)
    ] same
