-- Rows of what follows the last characters of a text.
use Rattle.std.proofs.Common.{◌≡◌, ℕ, ◌+◌, ◌-◌, ◌≤◌, ◌<◌, inl, inr, List, [], ◌∷◌, ◌++◌, length, get_or, drop, length-append, ap, sym, ◌∙◌, subst, arith}
use Rattle.std.proofs.lemmas.Bool.{cases_lt}
use Rattle.std.proofs.lemmas.Grind.{common_steps}
use Rattle.text_plans.specs.declared.facts.Facts.{Facts}
use Rattle.text_plans.specs.declared.row.Rest.{Rest}
use Rattle.text_plans.specs.declared.rules.Rules.{Rules}
use Rattle.text_plans.specs.Keeping.{IsKeptLane, IsRowOf, KeepsEnough, switch_kept}
use Rattle.text_plans.specs.Search.{lane_before, no_rest, rests_of}
use Rattle.text_plans.proofs.Kept.{enough_from, row_kept}
use Rattle.text_plans.proofs.Rows.{from_end, row_length}

pub whole_row : (rules : Rules) (all : List Facts) (row : List Rest) → row ≡ rests_of rules all → IsRowOf rules all row
whole_row rules all row is = (
  ap (λ (r : List Rest). length r) is ∙ row_length rules all,
  λ lane inside keeps. ap (λ (r : List Rest). get_or r lane no_rest) is,
)

-- A character more.
pub kept_more : (rules : Rules) (all : List Facts) (n k : ℕ) (d : Facts) (row next : List Rest) → n ≡ length all → k < n → KeepsEnough rules all →
    IsRowOf rules (drop (n - k) all) row → length next ≡ 17 →
    ((lane : ℕ) → lane < 17 → IsKeptLane rules.kept lane →
    get_or next lane no_rest
    ≡ lane_before rules (get_or all (n - 1 - k) d) (switch_kept rules (get_or all (n - 1 - k) d) row 15) lane (get_or row lane no_rest)) →
    IsRowOf rules (drop (n - (k + 1)) all) next
kept_more rules all n k d row next long inside enough is size made =
    let more = from_end all n k d long inside in
    subst (λ (x : List Facts). IsRowOf rules x next) (sym more)
    (row_kept rules (get_or all (n - 1 - k) d) (drop (n - k) all) row next
    (subst (λ (x : List Facts). KeepsEnough rules x) more (enough_from rules all (n - (k + 1)) enough)) is size made)

pub kept_last : (rules : Rules) (all : List Facts) (n k : ℕ) (row : List Rest) → n ≤ k → IsRowOf rules (drop (n - k) all) row → IsRowOf rules all row
kept_last rules all n k row past is =
    let e : n - k ≡ 0 = omega arith in subst (λ (m : ℕ). IsRowOf rules (drop m all) row) e is

-- ---- The list of rows

-- The rows of the last characters, up to a number of them.
abbrev pub AreRows : Rules → List Facts → ℕ → ℕ → List (List Rest) → Type 0
AreRows rules all n k rows =
    (length rows ≡ k + 1) × ((j : ℕ) → j ≤ k → IsRowOf rules (drop (n - j) all) (get_or rows j []))

pub rows_more : (rules : Rules) (all : List Facts) (n k : ℕ) (rows next : List (List Rest)) (row : List Rest) → AreRows rules all n k rows →
    next ≡ rows ++ row ∷ [] → IsRowOf rules (drop (n - (k + 1)) all) row → AreRows rules all n (k + 1) next
rows_more rules all n k rows next row h is made = (
  omega (arith, ap (λ (x : List (List Rest)). length x) is, length-append rows (row ∷ []), h.0),
  λ j below.
      elim (cases_lt j (k + 1)) [
        | inl before ↦
            let e : get_or next j [] ≡ get_or rows j [] = grind (arith, common_steps, h.0, is) in
            subst (λ (r : List Rest). IsRowOf rules (drop (n - j) all) r) (sym e) (h.1 j (omega arith))
        | inr last ↦
            let e : get_or next j [] ≡ row = grind (arith, common_steps, h.0, is) in
            let place : k + 1 ≡ j = omega arith in
            subst (λ (r : List Rest). IsRowOf rules (drop (n - j) all) r) (sym e) (subst (λ (m : ℕ). IsRowOf rules (drop (n - m) all) row) place made)
      ],
)

pub rows_first : (rules : Rules) (all : List Facts) (n : ℕ) (none rows : List (List Rest)) (row : List Rest) → none ≡ [] →
    rows ≡ none ++ row ∷ [] → IsRowOf rules (drop (n - 0) all) row → AreRows rules all n 0 rows
rows_first rules all n none rows row empty is made = (
  omega (arith, ap (λ (x : List (List Rest)). length x) is, length-append none (row ∷ []), ap (λ (x : List (List Rest)). length x) empty),
  λ j below.
      let e : get_or rows j [] ≡ row = grind (arith, common_steps, empty, is) in
      let place : 0 ≡ j = omega arith in
      subst (λ (r : List Rest). IsRowOf rules (drop (n - j) all) r) (sym e) (subst (λ (m : ℕ). IsRowOf rules (drop (n - m) all) row) place made),
)
