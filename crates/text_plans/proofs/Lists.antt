-- The lanes of designators that are kept, as a list.
use Rattle.std.proofs.Common.{◌≡◌, ℕ, zero, suc, ◌+◌, ◌≤◌, ◌<◌, inl, inr, Bool, true, false, List, [], ◌∷◌, ◌++◌, length, length-append, get_or, take, min, refl, ap, sym, ◌∙◌, subst, arith}
use Rattle.std.proofs.Math.ListN.{get_or-append, set}
use Rattle.std.proofs.Math.Seq.{get_or-append_seam}
use Rattle.std.proofs.lemmas.Bool.{cases_Bool, cases_eq, cases_lt, cond-false, cond-true}
use Rattle.std.proofs.lemmas.Grind.{get_or-set_at}
use Rattle.std.proofs.lemmas.List.{get_or-set_other, get_or-set_same, take_more_set}
use Rattle.text_plans.specs.declared.facts.Facts.{Facts}
use Rattle.text_plans.specs.declared.row.Rest.{Rest}
use Rattle.text_plans.specs.declared.row.TheConstants.{LIMIT}
use Rattle.text_plans.specs.declared.rules.Rules.{Rules}
use Rattle.text_plans.specs.Keeping.{IsKeptLane, kept_up_to, switch_kept}
use Rattle.text_plans.specs.Search.{begin_least, no_rest, weight_if}

-- ---- One lane more

pub one_more : (kept : List Bool) (n : ℕ) → get_or kept (suc n) false ≡ true → kept_up_to kept (suc n) ≡ kept_up_to kept n ++ suc n ∷ []
unfolding kept_up_to
one_more kept n h = cond-true (get_or kept (suc n) false) (kept_up_to kept n ++ suc n ∷ []) (kept_up_to kept n) h

pub none_more : (kept : List Bool) (n : ℕ) → get_or kept (suc n) false ≡ false → kept_up_to kept (suc n) ≡ kept_up_to kept n
unfolding kept_up_to
none_more kept n h = cond-false (get_or kept (suc n) false) (kept_up_to kept n ++ suc n ∷ []) (kept_up_to kept n) h

pub none_at_all : (kept : List Bool) → kept_up_to kept zero ≡ []
unfolding kept_up_to
none_at_all kept = refl

pub length_more : (xs : List ℕ) (x : ℕ) → length (xs ++ x ∷ []) ≡ length xs + 1
length_more xs x = length-append xs (x ∷ [])

-- ---- What is listed

pub list_length : (kept : List Bool) (n : ℕ) → length (kept_up_to kept n) ≤ n
list_length kept zero = rw (none_at_all kept) (omega arith)
list_length kept (suc n) =
    let before = list_length kept n in
    elim (cases_Bool (get_or kept (suc n) false)) [
      | inl is ↦ rw (one_more kept n is) (omega (arith, before, length_more (kept_up_to kept n) (suc n)))
      | inr left ↦ rw (none_more kept n left) (omega (arith, before))
    ]

-- A lane of a list with one more is one of the list, or the last.
at_end : (P : ℕ → Type 0) (xs : List ℕ) (x j : ℕ) → j < length (xs ++ x ∷ []) → (j < length xs → P (get_or xs j 0)) → P x → P (get_or (xs ++ x ∷ []) j 0)
at_end P xs x j inside before last =
    elim (cases_lt j (length xs)) [
      | inl low ↦ subst P (sym (get_or-append xs (x ∷ []) 0 j low)) (before low)
      | inr high ↦
          let e : length xs ≡ j = omega (arith, high, inside, length_more xs x) in
          subst (λ (k : ℕ). P (get_or (xs ++ x ∷ []) k 0)) e (subst P (sym (get_or-append_seam xs x [] 0)) last)
    ]

pub list_within : (kept : List Bool) (n j : ℕ) → j < length (kept_up_to kept n) →
    (1 ≤ get_or (kept_up_to kept n) j 0) × (get_or (kept_up_to kept n) j 0 ≤ n)
list_within kept zero j h =
    let none = ap (λ (x : List ℕ). length x) (none_at_all kept) in absurd (omega (arith, h, none))
list_within kept (suc n) j h =
    elim (cases_Bool (get_or kept (suc n) false)) [
      | inl is ↦
          let inside = subst (λ (x : List ℕ). j < length x) (one_more kept n is) h in
          rw (one_more kept n is)
          (at_end (λ (lane : ℕ). (1 ≤ lane) × (lane ≤ suc n)) (kept_up_to kept n) (suc n) j inside
          (λ low. let w = list_within kept n j low in (w.0, omega (arith, w.1))) (omega arith, omega arith))
      | inr left ↦
          let w = list_within kept n j (subst (λ (x : List ℕ). j < length x) (none_more kept n left) h) in
          rw (none_more kept n left) (w.0, omega (arith, w.1))
    ]

pub list_kept : (kept : List Bool) (n j : ℕ) → j < length (kept_up_to kept n) → IsKeptLane kept (get_or (kept_up_to kept n) j 0)
list_kept kept zero j h =
    let none = ap (λ (x : List ℕ). length x) (none_at_all kept) in absurd (omega (arith, h, none))
list_kept kept (suc n) j h =
    elim (cases_Bool (get_or kept (suc n) false)) [
      | inl is ↦
          rw (one_more kept n is)
          (at_end (λ (lane : ℕ). IsKeptLane kept lane) (kept_up_to kept n) (suc n) j (subst (λ (x : List ℕ). j < length x) (one_more kept n is) h)
          (λ low. list_kept kept n j low) is)
      | inr left ↦ rw (none_more kept n left) (list_kept kept n j (subst (λ (x : List ℕ). j < length x) (none_more kept n left) h))
    ]

-- They stand in their order.
pub list_ascends : (kept : List Bool) (n j k : ℕ) → j < k → k < length (kept_up_to kept n) →
    get_or (kept_up_to kept n) j 0 < get_or (kept_up_to kept n) k 0
list_ascends kept zero j k order h =
    let none = ap (λ (x : List ℕ). length x) (none_at_all kept) in absurd (omega (arith, h, none))
list_ascends kept (suc n) j k order h =
    elim (cases_Bool (get_or kept (suc n) false)) [
      | inl is ↦
          let inside = subst (λ (x : List ℕ). k < length x) (one_more kept n is) h in
          let low : j < length (kept_up_to kept n) = omega (arith, order, inside, length_more (kept_up_to kept n) (suc n)) in
          rw (one_more kept n is)
          (rw (get_or-append (kept_up_to kept n) (suc n ∷ []) 0 j low)
          (at_end (λ (lane : ℕ). get_or (kept_up_to kept n) j 0 < lane) (kept_up_to kept n) (suc n) k inside (λ before. list_ascends kept n j k order before)
          (let w = list_within kept n j low in omega (arith, w.1))))
      | inr left ↦ rw (none_more kept n left) (list_ascends kept n j k order (subst (λ (x : List ℕ). k < length x) (none_more kept n left) h))
    ]

-- The place of a lane that is kept.
pub record HasPlace (kept : List Bool) (n lane : ℕ) : Type 0 where
  pub place : ℕ
  pub inside : place < length (kept_up_to kept n)
  pub is : get_or (kept_up_to kept n) place 0 ≡ lane

pub list_has : (kept : List Bool) (n lane : ℕ) → 1 ≤ lane → lane ≤ n → IsKeptLane kept lane → HasPlace kept n lane
list_has kept zero lane low high keeps = absurd (omega (arith, low, high))
list_has kept (suc n) lane low high keeps =
    elim (cases_lt lane (suc n)) [
      | inl before ↦
          let w = list_has kept n lane low (omega (arith, before)) keeps in
          elim (cases_Bool (get_or kept (suc n) false)) [
            | inl is ↦ record {
              place = w.place;
              inside = rw (one_more kept n is) (omega (arith, w.inside, length_more (kept_up_to kept n) (suc n)));
              is = rw (one_more kept n is) (get_or-append (kept_up_to kept n) (suc n ∷ []) 0 w.place w.inside ∙ w.is);
            }
            | inr left ↦ record {
              place = w.place;
              inside = rw (none_more kept n left) w.inside;
              is = rw (none_more kept n left) w.is;
            }
          ]
      | inr last ↦
          let e : suc n ≡ lane = omega (arith, last, high) in
          let is = subst (λ (k : ℕ). IsKeptLane kept k) (sym e) keeps in record {
            place = length (kept_up_to kept n);
            inside = rw (one_more kept n is) (omega (arith, length_more (kept_up_to kept n) (suc n)));
            is = rw (one_more kept n is) (get_or-append_seam (kept_up_to kept n) (suc n) [] 0 ∙ e);
          }
    ]

-- ---- The least of the lanes that are listed

module _ (rules : Rules) (f : Facts) (row : List Rest) where
  abbrev pub weight_at : ℕ → ℕ
  weight_at lane = weight_if true (rules.designator + begin_least rules f lane (get_or row lane no_rest))

  abbrev pub switch_over : List ℕ → ℕ
  switch_over [] = LIMIT
  switch_over (lane ∷ lanes) = min (weight_at lane) (switch_over lanes)

  small : (lanes : List ℕ) → switch_over lanes ≤ LIMIT
  small [] = omega arith
  small (lane ∷ lanes) = let later = small lanes in omega (arith, later)

  pub over_more : (lanes : List ℕ) (lane : ℕ) → switch_over (lanes ++ lane ∷ []) ≡ min (switch_over lanes) (weight_at lane)
  over_more [] lane = omega arith
  over_more (first ∷ lanes) lane = let later = over_more lanes lane in omega (arith, later)

  pub over_is : (n : ℕ) → switch_over (kept_up_to rules.kept n) ≡ switch_kept rules f row n
  unfolding switch_kept
  over_is zero = rw (none_at_all rules.kept) refl
  over_is (suc n) =
      elim (cases_Bool (get_or rules.kept (suc n) false)) [
        | inl is ↦
            rw (one_more rules.kept n is)
            (over_more (kept_up_to rules.kept n) (suc n) ∙ ap (λ (w : ℕ). min w (weight_at (suc n))) (over_is n)
            ∙ sym (cond-true (get_or rules.kept (suc n) false) (min (switch_kept rules f row n) (weight_at (suc n))) (switch_kept rules f row n) is))
        | inr left ↦
            rw (none_more rules.kept n left)
            (over_is n
            ∙ sym (cond-false (get_or rules.kept (suc n) false) (min (switch_kept rules f row n) (weight_at (suc n))) (switch_kept rules f row n) left))
      ]

-- ---- A list in an array

pub listed_more : (lanes : List ℕ) (count x : ℕ) (xs : List ℕ) → count < length lanes → take count lanes ≡ xs →
    take (count + 1) (set lanes count x) ≡ xs ++ x ∷ []
listed_more lanes count x xs inside is = take_more_set lanes count x inside ∙ ap (λ (t : List ℕ). t ++ x ∷ []) is

-- ---- A loop over the lanes of a list

-- The weight of a lane more is written.
pub weight_more : (made : ℕ → ℕ) (lanes weights : List ℕ) (at lane w : ℕ) → lane < length weights → lane ≡ get_or lanes at 0 → w ≡ made lane →
    ((j : ℕ) → j < at → get_or weights (get_or lanes j 0) 0 ≡ made (get_or lanes j 0)) →
    (j : ℕ) → j < at + 1 → get_or (set weights lane w) (get_or lanes j 0) 0 ≡ made (get_or lanes j 0)
weight_more made lanes weights at lane w inside is weight before j below =
    elim (cases_lt j at) [
      | inl low ↦ elim (cases_eq (get_or lanes j 0) lane) [
        | inl same ↦ get_or-set_at weights lane (get_or lanes j 0) w 0 same inside ∙ weight ∙ ap made (sym same)
        | inr differs ↦ get_or-set_other weights lane (get_or lanes j 0) w 0 differs ∙ before j low
      ]
      | inr last ↦
          let e : at ≡ j = omega (arith, last, below) in
          subst (λ (k : ℕ). get_or (set weights lane w) (get_or lanes k 0) 0 ≡ made (get_or lanes k 0)) e
          (subst (λ (l : ℕ). get_or (set weights lane w) l 0 ≡ made l) is (get_or-set_same weights lane w 0 inside ∙ weight))
    ]

-- What follows in a lane more is written, and the later lanes are as they were.
pub rest_more : (made : ℕ → Rest) (lanes : List ℕ) (at lane : ℕ) (old row : List Rest) (x : Rest) → lane < length row → lane ≡ get_or lanes at 0 →
    at < length lanes → ((j k : ℕ) → j < k → k < length lanes → get_or lanes j 0 < get_or lanes k 0) → x ≡ made lane →
    ((j : ℕ) → j < at → get_or row (get_or lanes j 0) no_rest ≡ made (get_or lanes j 0)) →
    ((j : ℕ) → at ≤ j → j < length lanes → get_or row (get_or lanes j 0) no_rest ≡ get_or old (get_or lanes j 0) no_rest) →
    ((j : ℕ) → j < at + 1 → get_or (set row lane x) (get_or lanes j 0) no_rest ≡ made (get_or lanes j 0))
    × ((j : ℕ) → at + 1 ≤ j → j < length lanes → get_or (set row lane x) (get_or lanes j 0) no_rest ≡ get_or old (get_or lanes j 0) no_rest)
rest_more made lanes at lane old row x inside is within order rest before left = (
  λ j below.
      elim (cases_lt j at) [
        | inl low ↦
            let less = order j at low within in
            get_or-set_other row lane (get_or lanes j 0) x no_rest (λ e. absurd (omega (arith, e, is, less))) ∙ before j low
        | inr last ↦
            let e : at ≡ j = omega (arith, last, below) in
            subst (λ (k : ℕ). get_or (set row lane x) (get_or lanes k 0) no_rest ≡ made (get_or lanes k 0)) e
            (subst (λ (l : ℕ). get_or (set row lane x) l no_rest ≡ made l) is (get_or-set_same row lane x no_rest inside ∙ rest))
      ],
  λ j above end.
      let less = order at j (omega (arith, above)) end in
      get_or-set_other row lane (get_or lanes j 0) x no_rest (λ e. absurd (omega (arith, e, is, less))) ∙ left j (omega (arith, above)) end,
)
