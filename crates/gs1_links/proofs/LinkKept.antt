-- No element of a text without a fault is lost in its link.
use Rattle.std.proofs.Common.{◌≡◌, ℕ, zero, suc, ◌+◌, ◌<◌, Bool, true, false, cond, List, [], ◌∷◌}
use Rattle.std.proofs.Common.{get_or, refl, arith, ap, sym, subst, ◌∙◌}
use Rattle.std.specs.Prelude.{All, Contains, Option, None, Some, is_some, ◌&&◌, ◌||◌, ◌==◌, if◌then◌else◌, slice_get}
use Rattle.std.specs.List.{list_any, filter}
use Rattle.std.specs.Option.{option_and_then, option_to_list}
use Rattle.std.proofs.lemmas.Grind.{common_steps}
use Rattle.std.proofs.lemmas.Option.{slice_get-get_or}
use Rattle.std.proofs.lemmas.List.Elements.{Contains-append_left, Contains-append_right}
use Rattle.gs1.specs.Elements.{Element}
use Rattle.gs1.specs.Together.{is_among, first_among}
use Rattle.gs1_links.specs.Links.{keys, number, is_attribute, element_with, primary_key, qualifier_order, order_of}
use Rattle.gs1_links.specs.Links.{excluded_of, qualifies, key_number, has_second, excluded_qualifiers}
use Rattle.gs1_links.specs.Links.{path_elements, query_elements, linked, qualifier_fault, second_key_fault}
use Rattle.gs1_links.specs.Links.{repeated_fault, later_fault, first_rule_fault}
use Rattle.gs1_links.specs.declared.link_error.LinkError.{LinkError}
use Rattle.gs1_links.specs.declared.link_error.LinkError.TheVariants.{SecondKey, WrongQualifier}
use Rattle.gs1.proofs.Faults.{neither}
use Rattle.gs1_links.proofs.LinkElements.{qualifying, alone}

none_some : {X : Type 0} (x : X) → None ≡ Some x → ⊥
none_some x e = cc

some_same : (x y : Element) → Some x ≡ Some y → x ≡ y
some_same x y e = cc

-- ---- The first of its kind

first_at : (ranges : List (ℕ × ℕ)) (start k : ℕ) (elements : List Element) (e : Element) → slice_get elements k ≡ Some e →
    is_among ranges (number e) ≡ true →
    ((j : ℕ) (x : Element) → j < k → slice_get elements j ≡ Some x → is_among ranges (number x) ≡ false) →
    first_among ranges start elements ≡ Some (start + k)
first_at ranges start k [] e at is before = absurd (none_some e at)
first_at ranges start zero (x ∷ elements) e at is before =
    let here : is_among ranges (number x) ≡ true = subst (λ y. is_among ranges (number y) ≡ true) (sym (some_same x e at)) is in
    let same : start ≡ start + 0 = omega arith in
    rw here (ap Some same)
first_at ranges start (suc k) (x ∷ elements) e at is before =
    let no_first : is_among ranges (number x) ≡ false = before 0 x (omega arith) refl in
    let later = first_at ranges (start + 1) k elements e at is (λ j y less there. before (suc j) y (omega arith) there) in
    let same : start + 1 + k ≡ start + suc k = omega arith in
    rw no_first (later ∙ ap Some same)

none_among : (ranges : List (ℕ × ℕ)) (start k : ℕ) (elements : List Element) (e : Element) →
    first_among ranges start elements ≡ None → slice_get elements k ≡ Some e → is_among ranges (number e) ≡ false
none_among ranges start k [] e none at = absurd (none_some e at)
none_among ranges start k (x ∷ elements) e none at =
    elim (is_among ranges (number x)) as (λ b. is_among ranges (number x) ≡ b →
    cond b (Some start) (first_among ranges (start + 1) elements) ≡ None → is_among ranges (number e) ≡ false) [
      | true ↦ λ is h. absurd (none_some start (sym h))
      | false ↦ λ is h. here k is (λ j there. none_among ranges (start + 1) j elements e h there) at
    ] refl none
  where
    here : (k : ℕ) → is_among ranges (number x) ≡ false →
        ((j : ℕ) → slice_get elements j ≡ Some e → is_among ranges (number e) ≡ false) →
        slice_get (x ∷ elements) k ≡ Some e → is_among ranges (number e) ≡ false
    here zero is later at = subst (λ y. is_among ranges (number y) ≡ false) (some_same x e at) is
    here (suc k) is later at = later k at

-- ---- Two elements

-- Of two elements the first has another identifier, and they are not both keys.
record AreApart (x e : Element) : Type 0 where
  numbers : is_among ((number e, number e) ∷ []) (number x) ≡ false
  not_keys : is_among keys (number e) ≡ true → is_among keys (number x) ≡ false

not_second : (place n : ℕ) (later : List Element) → second_key_fault place n later ≡ None → is_among keys n ≡ true →
    first_among keys 0 later ≡ None
unfolding second_key_fault
not_second place n later none is = nothing (is_among keys n) (first_among keys 0 later) (SecondKey place) is none
  where
    nothing : (b : Bool) (o : Option ℕ) (x : LinkError) → b ≡ true → (if b && is_some o then Some x else None) ≡ None → o ≡ None
    nothing true None x is e = refl
    nothing true (Some n) x is e = absurd (none_some x (sym e))
    nothing false o x is e = absurd (let h : false ≡ true = is in cc)

turned : (m n : ℕ) → is_among ((m, m) ∷ []) n ≡ false → is_among ((n, n) ∷ []) m ≡ false
turned m n e = grind (arith, common_steps)

apart_later : (place : ℕ) (x : Element) (elements : List Element) (k : ℕ) (e : Element) →
    later_fault place (number x) elements ≡ None → slice_get elements k ≡ Some e → AreApart x e
apart_later place x elements k e none at =
    let both = neither (second_key_fault place (number x) elements) (repeated_fault place (number x) elements) none in
    record {
      numbers = turned (number x) (number e)
          (none_among ((number x, number x) ∷ []) 0 k elements e (alone place (number x) elements both.1) at);
      not_keys = λ is. (elim (is_among keys (number x)) as (λ b. is_among keys (number x) ≡ b → b ≡ false) [
        | true ↦ λ mine.
            (let other = none_among keys 0 k elements e (not_second place (number x) elements both.0 mine) at in
            absurd (let h : true ≡ false = sym is ∙ other in cc))
        | false ↦ λ mine. refl
      ] refl);
    }

apart : (order : List ℕ) (place : ℕ) (elements : List Element) (j k : ℕ) (x e : Element) →
    first_rule_fault order place elements ≡ None → j < k → slice_get elements j ≡ Some x → slice_get elements k ≡ Some e →
    AreApart x e
apart order place [] j k x e none less at there = absurd (none_some x at)
apart order place (y ∷ elements) zero zero x e none less at there = absurd (omega arith)
apart order place (y ∷ elements) (suc j) zero x e none less at there = absurd (omega arith)
apart order place (y ∷ elements) zero (suc k) x e none less at there =
    let first = neither (qualifier_fault order place (number y)) _ none in
    let second = neither (later_fault place (number y) elements) (first_rule_fault order (place + 1) elements) first.1 in
    subst (λ z. AreApart z e) (some_same y x at) (apart_later place y elements k e second.0 there)
apart order place (y ∷ elements) (suc j) (suc k) x e none less at there =
    let first = neither (qualifier_fault order place (number y)) _ none in
    let second = neither (later_fault place (number y) elements) (first_rule_fault order (place + 1) elements) first.1 in
    apart order (place + 1) elements j k x e second.1 (omega arith) at there

-- ---- Each element

right_qualifier : (order : List ℕ) (place : ℕ) (elements : List Element) (k : ℕ) (e : Element) →
    first_rule_fault order place elements ≡ None → slice_get elements k ≡ Some e →
    (p : ℕ) × (qualifier_fault order p (number e) ≡ None)
right_qualifier order place [] k e none at = absurd (none_some e at)
right_qualifier order place (y ∷ elements) zero e none at =
    let first = neither (qualifier_fault order place (number y)) _ none in
    (place, subst (λ z. qualifier_fault order place (number z) ≡ None) (some_same y e at) first.0)
right_qualifier order place (y ∷ elements) (suc k) e none at =
    let first = neither (qualifier_fault order place (number y)) _ none in
    let second = neither (later_fault place (number y) elements) (first_rule_fault order (place + 1) elements) first.1 in
    right_qualifier order (place + 1) elements k e second.1 at

not_excluded : (excluded : List ℕ) (place n : ℕ) → qualifier_fault excluded place n ≡ None → list_any (λ m. m == n) excluded ≡ false
unfolding qualifier_fault
not_excluded excluded place n none = no (list_any (λ m. m == n) excluded) (WrongQualifier place n) none
  where
    no : (b : Bool) (x : LinkError) → (if b then Some x else None) ≡ None → b ≡ false
    no true x e = absurd (none_some x (sym e))
    no false x e = refl

-- Of the qualifiers of a key, those that are not excluded are in the order.
in_order_of : (key : ℕ) (second : Bool) (n : ℕ) → list_any (λ m. m == n) (excluded_of key second) ≡ false →
    qualifies key n ≡ true → list_any (λ m. m == n) (order_of key second) ≡ true
in_order_of key true n other is = right (list_any (λ m. m == n) (order_of key false)) (list_any (λ m. m == n) (order_of key true)) other is
  where
    right : (a b : Bool) → a ≡ false → (a || b) ≡ true → b ≡ true
    right true b other either = absurd (let h : true ≡ false = other in cc)
    right false b other either = either
in_order_of key false n other is = left (list_any (λ m. m == n) (order_of key false)) (list_any (λ m. m == n) (order_of key true)) other is
  where
    left : (a b : Bool) → b ≡ false → (a || b) ≡ true → a ≡ true
    left true b other either = refl
    left false b other either = absurd (let h : false ≡ true = sym other ∙ either in cc)

itself : (e : Element) → Contains (e ∷ []) e
itself e = (0, omega arith, refl)

in_path : (elements : List Element) (order : List ℕ) (n : ℕ) (e : Element) → element_with n elements ≡ Some e →
    list_any (λ m. m == n) order ≡ true → Contains (qualifying order elements) e
in_path elements [] n e is any = absurd (let h : false ≡ true = any in cc)
in_path elements (m ∷ order) n e is any =
    elim (m == n) as (λ b. (m == n) ≡ b → (b || list_any (λ o. o == n) order) ≡ true → Contains (qualifying (m ∷ order) elements) e) [
      | true ↦ λ same h.
          (let here : element_with m elements ≡ Some e = ap (λ o. element_with o elements) (same_number m n same) ∙ is in
          Contains-append_left (option_to_list (element_with m elements)) (qualifying order elements) e
          (subst (λ o. Contains (option_to_list o) e) (sym here) (itself e)))
      | false ↦ λ other h.
          Contains-append_right (option_to_list (element_with m elements)) (qualifying order elements) e
          (in_path elements order n e is h)
    ] refl any
  where
    same_number : (m n : ℕ) → (m == n) ≡ true → m ≡ n
    same_number m n e = grind (arith, common_steps)

in_query : (key : ℕ) (elements : List Element) (k : ℕ) (e : Element) → slice_get elements k ≡ Some e → is_attribute key e ≡ true →
    Contains (filter (is_attribute key) elements) e
in_query key [] k e at is = absurd (none_some e at)
in_query key (x ∷ elements) zero e at is =
    let here : is_attribute key x ≡ true = subst (λ y. is_attribute key y ≡ true) (sym (some_same x e at)) is in
    let all : filter (is_attribute key) (x ∷ elements) ≡ x ∷ filter (is_attribute key) elements = rw here refl in
    subst (λ es. Contains es e) (sym all)
    (Contains-append_left (x ∷ []) (filter (is_attribute key) elements) e (subst (Contains (x ∷ [])) (some_same x e at) (itself x)))
in_query key (x ∷ elements) (suc k) e at is =
    let below = in_query key elements k e at is in
    elim (is_attribute key x) as (λ b. Contains (cond b (x ∷ filter (is_attribute key) elements) (filter (is_attribute key) elements)) e) [
      | true ↦ Contains-append_right (x ∷ []) (filter (is_attribute key) elements) e below
      | false ↦ below
    ]

same_range : (n : ℕ) → is_among ((n, n) ∷ []) n ≡ true
same_range n = grind (arith, common_steps)

zero_more : (k : ℕ) → 0 + k ≡ k
zero_more k = omega arith

kept_at : (elements : List Element) (k : ℕ) (e : Element) → first_rule_fault (excluded_qualifiers elements) 0 elements ≡ None →
    slice_get elements k ≡ Some e → Contains (linked elements) e
kept_at elements k e rules at =
    elim (is_among keys (number e)) as (λ b. is_among keys (number e) ≡ b → Contains (linked elements) e) [
      | true ↦ λ key.
          (let first : first_among keys 0 elements ≡ Some k = subst (λ m. first_among keys 0 elements ≡ Some m) (zero_more k)
          (first_at keys 0 k elements e at key (λ j x less there. (apart (excluded_qualifiers elements) 0 elements j k x e rules less there at).not_keys key)) in
          let is : primary_key elements ≡ Some e =
          ap (λ o. option_and_then (λ place. slice_get elements place) o) first ∙ at in
          Contains-append_left (path_elements elements) (query_elements elements) e
          (Contains-append_left (option_to_list (primary_key elements)) (qualifying (qualifier_order elements) elements) e
          (subst (λ o. Contains (option_to_list o) e) (sym is) (itself e))))
      | false ↦ λ no_key. elim (qualifies (key_number elements) (number e)) as (λ b. qualifies (key_number elements) (number e) ≡ b →
          Contains (linked elements) e) [
            | true ↦ λ qualifier.
                (let right = right_qualifier (excluded_qualifiers elements) 0 elements k e rules at in
                let any = in_order_of (key_number elements) (has_second elements (key_number elements)) (number e)
                (not_excluded (excluded_qualifiers elements) right.0 (number e) right.1) qualifier in
                let first : first_among ((number e, number e) ∷ []) 0 elements ≡ Some k =
                subst (λ m. first_among ((number e, number e) ∷ []) 0 elements ≡ Some m) (zero_more k)
                (first_at ((number e, number e) ∷ []) 0 k elements e at (same_range (number e))
                (λ j x less there. (apart (excluded_qualifiers elements) 0 elements j k x e rules less there at).numbers)) in
                let is : element_with (number e) elements ≡ Some e =
                ap (λ o. option_and_then (λ place. slice_get elements place) o) first ∙ at in
                Contains-append_left (path_elements elements) (query_elements elements) e
                (Contains-append_right (option_to_list (primary_key elements)) (qualifying (qualifier_order elements) elements) e
                (in_path elements (qualifier_order elements) (number e) e is any)))
            | false ↦ λ no_qualifier.
                Contains-append_right (path_elements elements) (query_elements elements) e
                (in_query (key_number elements) elements k e at (rw (no_key, no_qualifier) refl))
          ] refl
    ] refl

-- Each element of the text is in its link.
pub all_kept : (elements : List Element) → first_rule_fault (excluded_qualifiers elements) 0 elements ≡ None →
    All (Contains (linked elements)) elements
all_kept elements rules k d within =
    kept_at elements k (get_or elements k d) rules (slice_get-get_or elements k d within)
