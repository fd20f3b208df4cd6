-- Which elements stand together: by their numbers alone, and in any order.
use Rattle.std.proofs.Common.{◌≡◌, ℕ, ◌+◌, Bool, true, false, cond, List, [], ◌∷◌, ◌++◌, length, map}
use Rattle.std.proofs.Common.{refl, ap, sym, subst, ◌∙◌}
use Rattle.std.specs.Prelude.{All, Contains, Option, None, Some, is_some, ◌||◌, ◌==◌}
use Rattle.std.specs.List.{list_any}
use Rattle.std.specs.Option.{option_or, option_map}
use Rattle.std.proofs.lemmas.List.Elements.{All-nil, All-cons, All-head, All-tail, All-weaker, All-contains}
use Rattle.std.proofs.lemmas.List.Elements.{All-contains_itself}
use Rattle.std.proofs.lemmas.List.Folds.{list_any_at}
use Rattle.gs1.specs.Elements.{Element}
use Rattle.gs1.specs.Table.{needed, also_needed, barred}
use Rattle.gs1.specs.Together.{is_among, first_among, missing_fault, barred_fault, has_point, elsewhere, point_fault}
use Rattle.gs1.specs.Together.{element_conflict, first_conflict}
use Rattle.gs1.specs.declared.together.TogetherError.TheVariants.{MissingElement, ConflictingElement}
use Rattle.gs1.proofs.Allowed.{none_mapped}
use Rattle.gs1.proofs.Faults.{neither}
use Rattle.gs1_links.specs.Links.{number}
use Rattle.gs1_links.specs.LinkReader.{ReadsPath}
use Rattle.gs1_links.specs.LinkFaults.{pairs, decoded_element, path_pairs, query_parts_of, link_elements}
use Rattle.gs1_links.proofs.LinkQueries.{read_part}

-- ---- The same elements

-- Each of two lists has all elements of the other.
pub record HaveSame (xs ys : List Element) : Type 0 where
  pub there : All (Contains ys) xs
  pub back : All (Contains xs) ys

any_among : (ranges : List (ℕ × ℕ)) (n : ℕ) (xs : List Element) →
    is_some (first_among ranges n xs) ≡ list_any (λ e. is_among ranges (number e)) xs
any_among ranges n [] = refl
any_among ranges n (x ∷ xs) =
    elim (is_among ranges (number x)) as (λ b. is_some (cond b (Some n) (first_among ranges (n + 1) xs)) ≡
    (b || list_any (λ e. is_among ranges (number e)) xs)) [
      | true ↦ refl
      | false ↦ any_among ranges (n + 1) xs
    ]

some_of : (p : Element → Bool) (xs : List Element) (e : Element) → Contains xs e → p e ≡ true → list_any p xs ≡ true
some_of p xs e has is = list_any_at p xs has.0 e has.1 (subst (λ y. p y ≡ true) (sym has.2) is)

any_within : (p : Element → Bool) (xs ys : List Element) → All (Contains ys) xs → list_any p xs ≡ true → list_any p ys ≡ true
any_within p [] ys all is = absurd (let h : false ≡ true = is in cc)
any_within p (x ∷ xs) ys all is =
    elim (p x) as (λ b. p x ≡ b → (b || list_any p xs) ≡ true → list_any p ys ≡ true) [
      | true ↦ λ here h. some_of p ys x (All-head (Contains ys) x xs all) here
      | false ↦ λ here h. any_within p xs ys (All-tail (Contains ys) x xs all) h
    ] refl is

both_ways : (a b : Bool) → (a ≡ true → b ≡ true) → (b ≡ true → a ≡ true) → a ≡ b
both_ways true b there back = sym (there refl)
both_ways false true there back = back refl
both_ways false false there back = refl

same_found : (ranges : List (ℕ × ℕ)) (xs ys : List Element) → HaveSame xs ys →
    is_some (first_among ranges 0 xs) ≡ is_some (first_among ranges 0 ys)
same_found ranges xs ys same =
    let p : Element → Bool = λ e. is_among ranges (number e) in
    any_among ranges 0 xs
    ∙ both_ways (list_any p xs) (list_any p ys) (any_within p xs ys same.there) (any_within p ys xs same.back)
    ∙ sym (any_among ranges 0 ys)

-- ---- No conflict

some_is : {X : Type 0} (b : Bool) (x : X) → cond b None (Some x) ≡ None → b ≡ true
some_is true x e = refl
some_is false x e = absurd (let h : Some x ≡ None = e in cc)

no_missing : (ranges : List (ℕ × ℕ)) (xs ys : List Element) (m n i : ℕ) → HaveSame xs ys →
    missing_fault ranges xs m i ≡ None → missing_fault ranges ys n i ≡ None
no_missing ranges xs ys m n i same none =
    let is = some_is ((length ranges == 0) || is_some (first_among ranges 0 xs)) (MissingElement m i) none in
    let other : ((length ranges == 0) || is_some (first_among ranges 0 ys)) ≡ true =
    ap (λ b. (length ranges == 0) || b) (sym (same_found ranges xs ys same)) ∙ is in
    ap (λ b. cond b None (Some (MissingElement n i))) other

nothing : (o : Option ℕ) → is_some o ≡ false → o ≡ None
nothing None e = refl
nothing (Some n) e = absurd (let h : true ≡ false = e in cc)

no_barred : (ranges : List (ℕ × ℕ)) (xs ys : List Element) (m n i : ℕ) → HaveSame xs ys →
    barred_fault ranges xs m i ≡ None → barred_fault ranges ys n i ≡ None
no_barred ranges xs ys m n i same none =
    let is : first_among ranges 0 xs ≡ None = none_mapped (λ other. ConflictingElement m i other) (first_among ranges 0 xs) none in
    ap (option_map (λ other. ConflictingElement n i other))
    (nothing (first_among ranges 0 ys) (sym (same_found ranges xs ys same) ∙ ap is_some is))

or_none : {X : Type 0} (a b : Option X) → a ≡ None → b ≡ None → option_or a b ≡ None
or_none a b first second = rw first second

no_point : (xs ys : List Element) (m n i : ℕ) → HaveSame xs ys → point_fault xs m i ≡ None → point_fault ys n i ≡ None
unfolding point_fault
no_point xs ys m n i same none =
    elim (has_point i) as (λ b. cond b (barred_fault (elsewhere i) xs m i) None ≡ None →
    cond b (barred_fault (elsewhere i) ys n i) None ≡ None) [
      | true ↦ λ h. no_barred (elsewhere i) xs ys m n i same h
      | false ↦ λ h. refl
    ] none

no_conflict : (xs ys : List Element) (m n i : ℕ) → HaveSame xs ys → element_conflict xs m i ≡ None →
    element_conflict ys n i ≡ None
no_conflict xs ys m n i same none =
    let first = neither (missing_fault (needed i) xs m i) _ none in
    let second = neither (missing_fault (also_needed i) xs m i) _ first.1 in
    let third = neither (barred_fault (barred i) xs m i) (point_fault xs m i) second.1 in
    or_none (missing_fault (needed i) ys n i) _ (no_missing (needed i) xs ys m n i same first.0)
    (or_none (missing_fault (also_needed i) ys n i) _ (no_missing (also_needed i) xs ys m n i same second.0)
    (or_none (barred_fault (barred i) ys n i) (point_fault ys n i)
    (no_barred (barred i) xs ys m n i same third.0) (no_point xs ys m n i same third.1)))

-- An element has no conflict among all.
abbrev HasNone : List Element → Element → Type 0
HasNone all e = element_conflict all 0 (number e) ≡ None

itself : (all : List Element) → HaveSame all all
itself all = record { there = All-contains_itself all; back = All-contains_itself all }

each_has : (all : List Element) (n : ℕ) (xs : List Element) → first_conflict all n xs ≡ None → All (HasNone all) xs
each_has all n [] none = All-nil (HasNone all)
each_has all n (x ∷ xs) none =
    let both = neither (element_conflict all n (number x)) (first_conflict all (n + 1) xs) none in
    All-cons (HasNone all) x xs (no_conflict all all n 0 (number x) (itself all) both.0) (each_has all (n + 1) xs both.1)

has_each : (all : List Element) (n : ℕ) (xs : List Element) → All (HasNone all) xs → first_conflict all n xs ≡ None
has_each all n [] each = refl
has_each all n (x ∷ xs) each =
    or_none (element_conflict all n (number x)) (first_conflict all (n + 1) xs)
    (no_conflict all all 0 n (number x) (itself all) (All-head (HasNone all) x xs each))
    (has_each all (n + 1) xs (All-tail (HasNone all) x xs each))

-- Elements stand together in any order.
pub together_same : (xs ys : List Element) → HaveSame xs ys → first_conflict xs 0 xs ≡ None → first_conflict ys 0 ys ≡ None
together_same xs ys same none =
    let each = each_has xs 0 xs none in
    has_each ys 0 ys (All-weaker (Contains xs) (HasNone ys)
    (λ y has. no_conflict xs ys 0 0 (number y) same (All-contains (HasNone xs) xs y each has)) ys same.back)

-- ---- The same numbers

same_head : (m n : ℕ) (ms ns : List ℕ) → m ∷ ms ≡ n ∷ ns → m ≡ n
same_head m n ms ns e = cc

same_tail : (m n : ℕ) (ms ns : List ℕ) → m ∷ ms ≡ n ∷ ns → ms ≡ ns
same_tail m n ms ns e = cc

no_more : (m : ℕ) (ms : List ℕ) → [] ≡ m ∷ ms → ⊥
no_more m ms e = cc

among_numbers : (ranges : List (ℕ × ℕ)) (n : ℕ) (xs ys : List Element) → map number xs ≡ map number ys →
    first_among ranges n xs ≡ first_among ranges n ys
among_numbers ranges n [] [] e = refl
among_numbers ranges n [] (y ∷ ys) e = absurd (no_more (number y) (map number ys) e)
among_numbers ranges n (x ∷ xs) [] e = absurd (no_more (number x) (map number xs) (sym e))
among_numbers ranges n (x ∷ xs) (y ∷ ys) e =
    ap (λ m. cond (is_among ranges m) (Some n) (first_among ranges (n + 1) xs))
    (same_head (number x) (number y) (map number xs) (map number ys) e)
    ∙ ap (cond (is_among ranges (number y)) (Some n))
    (among_numbers ranges (n + 1) xs ys (same_tail (number x) (number y) (map number xs) (map number ys) e))

same_point : (all others : List Element) (n i : ℕ) → map number all ≡ map number others →
    point_fault all n i ≡ point_fault others n i
unfolding point_fault
same_point all others n i e =
    ap (λ o. cond (has_point i) (option_map (λ other. ConflictingElement n i other) o) None)
    (among_numbers (elsewhere i) 0 all others e)

conflict_numbers : (all others : List Element) (n i : ℕ) → map number all ≡ map number others →
    element_conflict all n i ≡ element_conflict others n i
conflict_numbers all others n i e =
    let first = among_numbers (needed i) 0 all others e in
    let second = among_numbers (also_needed i) 0 all others e in
    let third = among_numbers (barred i) 0 all others e in
    let fourth = same_point all others n i e in
    rw (first, second, third, fourth) refl

first_numbers : (all others : List Element) (n : ℕ) (xs ys : List Element) → map number all ≡ map number others →
    map number xs ≡ map number ys → first_conflict all n xs ≡ first_conflict others n ys
first_numbers all others n [] [] whole e = refl
first_numbers all others n [] (y ∷ ys) whole e = absurd (no_more (number y) (map number ys) e)
first_numbers all others n (x ∷ xs) [] whole e = absurd (no_more (number x) (map number xs) (sym e))
first_numbers all others n (x ∷ xs) (y ∷ ys) whole e =
    ap (λ o. option_or o (first_conflict all (n + 1) xs)) (conflict_numbers all others n (number x) whole)
    ∙ ap (λ m. option_or (element_conflict others n m) (first_conflict all (n + 1) xs))
    (same_head (number x) (number y) (map number xs) (map number ys) e)
    ∙ ap (option_or (element_conflict others n (number y)))
    (first_numbers all others (n + 1) xs ys whole (same_tail (number x) (number y) (map number xs) (map number ys) e))

-- Elements with the same numbers have the same conflict.
pub together_numbers : (xs ys : List Element) → map number xs ≡ map number ys →
    first_conflict xs 0 xs ≡ first_conflict ys 0 ys
together_numbers xs ys e = first_numbers xs ys 0 xs ys e e

-- ---- The numbers of a link

pairs_numbers : (segments : List (List ℕ)) (elements : List Element) → ReadsPath segments elements →
    map number (pairs segments) ≡ map number elements
pairs_numbers segments [] reads = ap (λ s. map number (pairs s)) reads
pairs_numbers segments (e ∷ elements) reads =
    ap (λ s. map number (pairs s)) reads.2 ∙ ap (λ ns. number e ∷ ns) (pairs_numbers reads.1 elements reads.4)

numbers_joined : (xs ys : List Element) → map number (xs ++ ys) ≡ map number xs ++ map number ys
numbers_joined [] ys = refl
numbers_joined (x ∷ xs) ys = ap (λ ns. number x ∷ ns) (numbers_joined xs ys)

pub numbers_same : (elements : List Element) → map number (map decoded_element elements) ≡ map number elements
numbers_same [] = refl
numbers_same (e ∷ elements) = ap (λ ns. number e ∷ ns) (numbers_same elements)

-- The numbers of the elements that are read.
pub read_numbers : (link : List ℕ) (segments parts : List (List ℕ)) (path query : List Element) → path_pairs link ≡ pairs segments →
    query_parts_of link ≡ parts → ReadsPath segments path → map read_part parts ≡ query →
    map number (link_elements link) ≡ map number (path ++ query)
read_numbers link segments parts path query pairs_are parts_are' reads query_is =
    numbers_joined (map decoded_element (path_pairs link)) (map read_part (query_parts_of link))
    ∙ ap (λ ns. ns ++ map number (map read_part (query_parts_of link)))
    (numbers_same (path_pairs link) ∙ ap (map number) pairs_are ∙ pairs_numbers segments path reads)
    ∙ ap (λ es. map number path ++ map number es) (ap (map read_part) parts_are' ∙ query_is)
    ∙ sym (numbers_joined path query)
