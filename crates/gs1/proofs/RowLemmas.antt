-- The row that is looked up, and what the rows of the table pass.
use Rattle.std.proofs.Common.{◌≡◌, ℕ, zero, suc, ◌+◌, ◌-◌, ◌<◌, ◌≤◌, Bool, true, false, cond, List, [], ◌∷◌, length}
use Rattle.std.proofs.Common.{refl, arith, get_or, ap, sym, subst, ◌∙◌, inl, inr, ltb-true}
use Rattle.std.specs.Prelude.{Option, None, Some, is_none, unwrap_or, nat_le, nat_lt, position, slice_get, if◌then◌else◌}
use Rattle.std.specs.List.{find, list_all, position_or_len}
use Rattle.std.proofs.lemmas.Bool.{cases_lt, leb-true}
use Rattle.std.proofs.lemmas.Grind.{common_steps}
use Rattle.std.proofs.lemmas.List.Folds.{find_at}
use Rattle.std.proofs.lemmas.Option.{slice_get-get_or, slice_get_past}
use Rattle.gs1.specs.Identifiers.{predefined_length_of}
use Rattle.gs1.specs.declared.table.Row.{Row}
use Rattle.gs1.specs.Table.{is_row_of, row_of, first_of, last_of, has_fnc1, parts_of, parts_in, components}
use Rattle.gs1.specs.Table.{first_qualifiers, second_qualifiers, qualifiers_in, qualifiers_of}
use Rattle.gs1.specs.TableLaws.{digits_of, prefix_of, all_from, is_exact, is_sized, has_sizes, fits}
use Rattle.gs1.specs.TableLaws.{is_no_key, has_qualifiers}
use Rattle.gs1.specs.declared.rows.TheConstants.{TABLE}
use Rattle.gs1.specs.declared.table.Component.{Component}
use Rattle.gs1.proofs.Faults.{both}

-- ---- The row that is found

pub inside : {X : Type 0} {x y : X} → Some x ≡ Some y → x ≡ y
inside h = cc

at_least : (m n : ℕ) → nat_lt m n ≡ false → n ≤ m
at_least m n e = grind (arith, common_steps)

at_first : (i n k : ℕ) (b : Bool) → nat_lt i n ≡ b → cond b (Some i) None ≡ Some k → (i ≡ k) × (i < n)
at_first i n k true is e = (inside e, ltb-true i n is)
at_first i n k false is e = absurd (let h : None ≡ Some k = e in cc)

past_end : (i n : ℕ) (b : Bool) → nat_lt i n ≡ b → cond b (Some i) None ≡ None → n ≤ i
past_end i n true is e = absurd (let h : Some i ≡ None = e in cc)
past_end i n false is e = at_least i n is

pub found_at : {X : Type 0} (p : X → Bool) (xs : List X) (k : ℕ) (d : X) → position p xs ≡ Some k →
    find p xs ≡ Some (get_or xs k d)
found_at p xs k d e =
    let at = at_first (position_or_len p xs) (length xs) k (nat_lt (position_or_len p xs) (length xs)) refl e in
    let within : k < length xs = subst (λ i. i < length xs) at.0 at.1 in
    find_at p xs ∙ ap (slice_get xs) at.0 ∙ slice_get-get_or xs k d within

pub found_nowhere : {X : Type 0} (p : X → Bool) (xs : List X) → position p xs ≡ None → find p xs ≡ None
found_nowhere p xs e =
    let past = past_end (position_or_len p xs) (length xs) (nat_lt (position_or_len p xs) (length xs)) refl e in
    find_at p xs ∙ slice_get_past xs (position_or_len p xs) past

row_is : (n : ℕ) → row_of n ≡ find (is_row_of n) TABLE
unfolding row_of
row_is n = refl

-- ---- What all rows pass

record Passes (test : Row → Bool) (n : ℕ) (row : Row) : Type 0 where
  passes : test row ≡ true
  is_of : is_row_of n row ≡ true

passes_first : (test : Row → Bool) (n : ℕ) (first row : Row) (rest : Option Row) (b : Bool) → is_row_of n first ≡ b →
    test first ≡ true → (rest ≡ Some row → Passes test n row) → cond b (Some first) rest ≡ Some row → Passes test n row
passes_first test n first row rest true is here below e =
    let same : first ≡ row = inside e in
    record {
      passes = subst (λ r. test r ≡ true) same here;
      is_of = subst (λ r. is_row_of n r ≡ true) same is;
    }
passes_first test n first row rest false is here below e = below e

passes_in : (test : Row → Bool) (n : ℕ) (rows : List Row) (row : Row) → list_all test rows ≡ true →
    find (is_row_of n) rows ≡ Some row → Passes test n row
passes_in test n [] row all e = absurd (let h : None ≡ Some row = e in cc)
passes_in test n (first ∷ rows) row all e =
    let parts = both (test first) (list_all test rows) all in
    passes_first test n first row (find (is_row_of n) rows) (is_row_of n first) refl parts.0
    (passes_in test n rows row parts.1) e

passes_of : (test : Row → Bool) (n : ℕ) (row : Row) → list_all test TABLE ≡ true → row_of n ≡ Some row → Passes test n row
passes_of test n row all e = passes_in test n TABLE row all (sym (row_is n) ∙ e)

all_there : (test : ℕ → Bool) (first count n : ℕ) → all_from test first count ≡ true → first ≤ n → n < first + count →
    test n ≡ true
all_there test first zero n all low high = absurd (omega (arith, low, high))
all_there test first (suc count) n all low high =
    let parts = both (test first) (all_from test (first + 1) count) all in
    elim (cases_lt first n) [
      | inl more ↦ all_there test (first + 1) count n parts.1 (omega (arith, more)) (omega (arith, high))
      | inr last ↦ (let same : first ≡ n = omega (arith, low, last) in subst (λ m. test m ≡ true) same parts.0)
    ]

-- ---- Values fit

pub rows_fit : list_all (λ (row : Row). fits (parts_of row)) TABLE ≡ true
rows_fit = refl

fits_in : (n : ℕ) (o : Option Row) → row_of n ≡ o → fits (parts_in o) ≡ true
fits_in n None e = refl
fits_in n (Some row) e = (passes_of (λ (row : Row). fits (parts_of row)) n row rows_fit e).passes

pub all_fit : (n : ℕ) → fits (components n) ≡ true
unfolding components
all_fit n = fits_in n (row_of n) refl

-- ---- Predefined lengths

pub rows_have_sizes : list_all has_sizes TABLE ≡ true
unfolding predefined_length_of
rows_have_sizes = refl

size_if : (fnc1 : Bool) (o : Option ℕ) (size digits : ℕ) (parts : List Component) → o ≡ Some size →
    (if fnc1 then is_none o else is_exact (unwrap_or o 0 - digits) parts) ≡ true → is_exact (size - digits) parts ≡ true
size_if fnc1 None size digits parts e h = absurd (let w : None ≡ Some size = e in cc)
size_if true (Some m) size digits parts e h = absurd (let w : false ≡ true = h in cc)
size_if false (Some m) size digits parts e h = subst (λ k. is_exact (k - digits) parts ≡ true) (inside e) h

within_row : (row : Row) (n : ℕ) → is_row_of n row ≡ true → (first_of row ≤ n) × (n ≤ last_of row)
within_row row n is =
    let parts = both (nat_le (first_of row) n) (nat_le n (last_of row)) is in
    (leb-true (first_of row) n parts.0, leb-true n (last_of row) parts.1)

sized_in : (n size : ℕ) (o : Option Row) → row_of n ≡ o → predefined_length_of (prefix_of n) ≡ Some size →
    is_exact (size - digits_of n) (parts_in o) ≡ true
sized_in n size None e is = refl
sized_in n size (Some row) e is =
    let found = passes_of has_sizes n row rows_have_sizes e in
    let within = within_row row n found.is_of in
    let here = all_there (is_sized row) (first_of row) (last_of row + 1 - first_of row) n found.passes within.0
    (omega (arith, within.0, within.1)) in
    size_if (has_fnc1 row) (predefined_length_of (prefix_of n)) size (digits_of n) (parts_of row) is here

-- The values of an identifier whose elements have a predefined length have the length that is left.
pub sized : (n size : ℕ) → predefined_length_of (prefix_of n) ≡ Some size →
    is_exact (size - digits_of n) (components n) ≡ true
unfolding components
sized n size is = sized_in n size (row_of n) refl is

-- ---- Qualifiers

pub rows_qualify : list_all has_qualifiers TABLE ≡ true
rows_qualify = refl

set_of : (first other : List ℕ) (second : Bool) → list_all is_no_key first ≡ true → list_all is_no_key other ≡ true →
    list_all is_no_key (if second then other else first) ≡ true
set_of first other true a b = b
set_of first other false a b = a

qualifies_in : (n : ℕ) (o : Option Row) (second : Bool) → row_of n ≡ o → list_all is_no_key (qualifiers_in o second) ≡ true
qualifies_in n None second e = refl
qualifies_in n (Some row) second e =
    let tests = both (list_all is_no_key (first_qualifiers row)) (list_all is_no_key (second_qualifiers row))
    (passes_of has_qualifiers n row rows_qualify e).passes in
    set_of (first_qualifiers row) (second_qualifiers row) second tests.0 tests.1

-- No qualifier of a key is a key.
pub qualifiers_no_keys : (key : ℕ) (second : Bool) → list_all is_no_key (qualifiers_of key second) ≡ true
unfolding qualifiers_of
qualifiers_no_keys key second = qualifies_in key (row_of key) second refl
