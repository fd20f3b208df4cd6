-- Plans of first segments, which are those of first bytes.
use Rattle.qrcode_bits.proofs.Prelude.{◌≡◌, ℕ, zero, suc, ◌+◌, ◌-◌, ◌<◌, ◌≤◌, List, [], ◌∷◌, Bool, true, false, length, take, drop, refl, sym, ap, ◌∙◌, subst}
use Rattle.qrcode_bits.proofs.Prelude.{arith}
use Rattle.qrcode_bits.proofs.Prelude.{inl, inr, cases_lt, Version, Segment, Candidate, Class, Run, EcLevel, Some, capacity, IsPlan, IsChosen, IsChosenPlan}
use Rattle.qrcode_bits.proofs.Prelude.{IsStep}
use Rattle.qrcode_bits.proofs.Prelude.{plan_bits, part_bits, parts, merged_all, slice_range, segment_at, total_bits, bits_before, joins, add_unit, runs, units}
use Rattle.qrcode_bits.proofs.Prelude.{run_segment, parsed, class_size, map, length-map, total_size, IsUnitEnd, FitsNot, normal, take-length}
use Rattle.std.proofs.lemmas.List.{take-take, drop-take, length-take-le, take-map}
use Rattle.qrcode_bits.proofs.{Optimal.IsChosen-unique, Optimal.IsChosen-chosen_plan, Optimal.chosen_plan, Adjoining.Adjoin, Adjoining.Adjoin-runs}
use Rattle.qrcode_bits.proofs.{Adjoining.parsed-adjoin}
use Rattle.qrcode_bits.proofs.{Cutting.units-split, Cutting.unit-order, Within.within-plan, Choices.fits_normal}
use Rattle.qrcode_bits.proofs.{Growth.plan_bits-parts, CuttingPlans.chosen-planned, Classes.too_many}

-- ---- Steps

pub first-step : (segments : List Segment) (version : Version) (c : Candidate) → c ≡ record { bits = 0; parts = 0; start = 0 } → IsStep segments version 0 c
first-step segments version c is = grind arith

pub step-bits : (segments : List Segment) (version : Version) (end : ℕ) (c : Candidate) → IsStep segments version end c →
    c.bits ≡ bits_before segments version end
step-bits segments version end c h =
    h.bits ∙ ap (plan_bits (part_bits segments version) end) (IsChosen-unique h.chosen (IsChosen-chosen_plan (part_bits segments version) end))

-- ---- First runs

take-none : {X : Type 0} (n : ℕ) → ◌≡◌ {A = List X} (take n []) []
take-none zero = refl
take-none (suc n) = refl

pub add-joined : (c : Class) (b : ℕ) (r : Run) (rest : List Run) → joins c r.class ≡ true →
    add_unit c b (r ∷ rest) ≡ record { class = c; begin = b; end = r.end } ∷ rest
add-joined c b r rest e = rw e refl

pub add-apart : (c : Class) (b : ℕ) (r : Run) (rest : List Run) → joins c r.class ≡ false →
    add_unit c b (r ∷ rest) ≡ record { class = c; begin = b; end = b + class_size c } ∷ r ∷ rest
add-apart c b r rest e = rw e refl

-- some first units have these runs alone
abbrev HasRuns : ℕ → List Class → List Run → Type 0
HasRuns b cs rs = (k : ℕ) × (k ≤ length cs) × (runs b (take k cs) ≡ rs)

module _ (b : ℕ) (c : Class) (cs : List Class) where
  more-joined : (n : ℕ) (r : Run) (rest : List Run) → joins c r.class ≡ true → HasRuns (b + class_size c) cs (r ∷ take n rest) →
      HasRuns b (c ∷ cs) (take (suc n) (add_unit c b (r ∷ rest)))
  more-joined n r rest e w = (
    suc w.0,
    omega (arith, w.1),
    ap (add_unit c b) w.2 ∙ (add-joined c b r (take n rest) e ∙ sym (ap (take (suc n)) (add-joined c b r rest e))),
  )

  more-apart : (n : ℕ) (r : Run) (rest : List Run) → joins c r.class ≡ false →
      ((m : ℕ) → m ≤ length (r ∷ rest) → HasRuns (b + class_size c) cs (take m (r ∷ rest))) →
      suc n ≤ length (add_unit c b (r ∷ rest)) → HasRuns b (c ∷ cs) (take (suc n) (add_unit c b (r ∷ rest)))
  more-apart zero r rest e ih h = (1, omega arith, sym (ap (take 1) (add-apart c b r rest e)))
  more-apart (suc n) r rest e ih h =
      let long = ap length (add-apart c b r rest e) in
      let w = ih (suc n) (omega (arith, h, long)) in (
        suc w.0,
        omega (arith, w.1),
        ap (add_unit c b) w.2 ∙ (add-apart c b r (take n rest) e ∙ sym (ap (take (suc (suc n))) (add-apart c b r rest e))),
      )

  more-tested : (n : ℕ) (r : Run) (rest : List Run) (t : Bool) → joins c r.class ≡ t →
      ((m : ℕ) → m ≤ length (r ∷ rest) → HasRuns (b + class_size c) cs (take m (r ∷ rest))) →
      suc n ≤ length (add_unit c b (r ∷ rest)) → HasRuns b (c ∷ cs) (take (suc n) (add_unit c b (r ∷ rest)))
  more-tested n r rest true e ih h =
      let long = ap length (add-joined c b r rest e) in more-joined n r rest e (ih (suc n) (omega (arith, h, long)))
  more-tested n r rest false e ih h = more-apart n r rest e ih h

  more-runs : (n : ℕ) (rs : List Run) → ((m : ℕ) → m ≤ length rs → HasRuns (b + class_size c) cs (take m rs)) →
      suc n ≤ length (add_unit c b rs) → HasRuns b (c ∷ cs) (take (suc n) (add_unit c b rs))
  more-runs n [] ih h = (1, omega arith, ap (λ z. record { class = c; begin = b; end = b + class_size c } ∷ z) (sym (take-none n)))
  more-runs n (r ∷ rest) ih h = more-tested n r rest (joins c r.class) refl ih h

first_runs : (b : ℕ) (cs : List Class) (n : ℕ) → n ≤ length (runs b cs) → HasRuns b cs (take n (runs b cs))
first_runs b [] n h = (0, omega arith, sym (take-none n))
first_runs b (c ∷ cs) zero h = (0, omega arith, refl)
first_runs b (c ∷ cs) (suc n) h = more-runs b c cs n (runs (b + class_size c) cs) (λ m k. first_runs (b + class_size c) cs m k) h

-- Some first units are parsed as these first segments alone.
pub record AreFirst (bytes : List ℕ) (n : ℕ) : Type 0 where
  pub k : ℕ
  pub within : k ≤ length (units bytes)
  pub alone : parsed (take (total_size (take k (units bytes))) bytes) ≡ take n (parsed bytes)
  pub adjoin : Adjoin 0 (take n (parsed bytes)) (total_size (take k (units bytes)))

pub first_units : (bytes : List ℕ) (n : ℕ) → n ≤ length (parsed bytes) → AreFirst bytes n
first_units bytes n h =
    let us = units bytes in
    let w = first_runs 0 us n (let e = length-map (runs 0 us) run_segment in omega (arith, h, e)) in
    let same : map run_segment (runs 0 (take w.0 us)) ≡ take n (parsed bytes) = ap (map run_segment) w.2 ∙ sym (take-map run_segment n (runs 0 us)) in
    let from : 0 + total_size (take w.0 us) ≡ total_size (take w.0 us) = omega arith in
    record {
      k = w.0;
      within = w.1;
      alone = ap (λ cs. map run_segment (runs 0 cs)) (units-split bytes w.0).0 ∙ same;
      adjoin = subst (λ ss. Adjoin 0 ss (total_size (take w.0 us))) same
          (subst (λ z. Adjoin 0 (map run_segment (runs 0 (take w.0 us))) z) from (Adjoin-runs 0 (take w.0 us)));
    }

-- ---- Where they end

pub adjoin-same : (from x y : ℕ) (ss : List Segment) → Adjoin from ss x → Adjoin from ss y → x ≡ y
adjoin-same from x y [] g h = sym g ∙ h
adjoin-same from x y (s ∷ ss) g h = adjoin-same s.end x y ss g.2 h.2

pub adjoin-begin : (from to : ℕ) (ss : List Segment) (n : ℕ) → Adjoin from ss to → n < length ss → Adjoin from (take n ss) (segment_at ss n).begin
adjoin-begin from to [] n h l = absurd (omega (arith, l))
adjoin-begin from to (s ∷ ss) zero h l = sym h.0
adjoin-begin from to (s ∷ ss) (suc n) h l = (h.0, h.1, adjoin-begin s.end to ss n h.2 (omega (arith, l)))

pub adjoin-end : (from to : ℕ) (ss : List Segment) (n : ℕ) → Adjoin from ss to → n < length ss → Adjoin from (take (suc n) ss) (segment_at ss n).end
adjoin-end from to [] n h l = absurd (omega (arith, l))
adjoin-end from to (s ∷ ss) zero h l = (h.0, h.1, refl)
adjoin-end from to (s ∷ ss) (suc n) h l = (h.0, h.1, adjoin-end s.end to ss n h.2 (omega (arith, l)))

-- ---- Their chosen plan

pub slice-first : {X : Type 0} (n s e : ℕ) (xs : List X) → e ≤ n → slice_range (take n xs) s e ≡ slice_range xs s e
slice-first n s e xs h = elim (cases_lt s e) [
  | inl less ↦ (let at : s + (n - s) ≡ n = omega (arith, less, h) in
      ap (λ k. take (e - s) (drop s (take k xs))) (sym at)
      ∙ (ap (take (e - s)) (drop-take s (n - s) xs) ∙ take-take (e - s) (n - s) (drop s xs) (omega (arith, h))))
  | inr past ↦ (let none : e - s ≡ 0 = omega (arith, past) in rw none refl)
]

pub agree : (c d : ℕ → ℕ → ℕ) (n : ℕ) → ((s e : ℕ) → e ≤ n → c s e ≡ d s e) → (end : ℕ) (plan : List ℕ) → end ≤ n → IsPlan end plan →
    plan_bits c end plan ≡ plan_bits d end plan
agree c d n same end [] h p = refl
agree c d n same end (s ∷ plan) h p =
    let rest = agree c d n same s plan (omega (arith, p.0, h)) p.1 in let last = same s end h in omega (arith, rest, last)

pub chosen-agree : (c d : ℕ → ℕ → ℕ) (n : ℕ) → ((s e : ℕ) → e ≤ n → c s e ≡ d s e) → (p : List ℕ) → IsChosen c n p → IsChosen d n p
chosen-agree c d n same p g = record {
  planned = g.planned;
  least = λ q k. (let w = g.least q k in
      let a = agree c d n same n p (omega arith) g.planned in
      let b = agree c d n same n q (omega arith) k in
      record {
        bits = omega (arith, w.bits, a, b);
        parts = λ e. w.parts (omega (arith, e, a, b));
        starts = λ e l. w.starts (omega (arith, e, a, b)) l;
      });
}

first_plan : (segments : List Segment) (v : Version) (n : ℕ) → n ≤ length segments →
    (plan : List Segment) × IsChosenPlan (take n segments) v plan × (total_bits v plan ≡ bits_before segments v n)
first_plan segments v n h =
    let cuts = chosen_plan (part_bits segments v) n in
    let g = IsChosen-chosen_plan (part_bits segments v) n in
    let same : (s e : ℕ) → e ≤ n → part_bits segments v s e ≡ part_bits (take n segments) v s e =
    λ s e k. ap (λ xs. total_bits v (merged_all xs)) (sym (slice-first n s e segments k)) in
    let long = length-take-le n segments h in (
      parts (take n segments) n cuts,
      record {
        cuts = cuts;
        chosen = subst (λ k. IsChosen (part_bits (take n segments) v) k cuts) (sym long)
            (chosen-agree (part_bits segments v) (part_bits (take n segments) v) n same cuts g);
        merges = ap (λ k. parts (take n segments) k cuts) (sym long);
      },
      plan_bits-parts (take n segments) v n cuts
          ∙ sym (agree (part_bits segments v) (part_bits (take n segments) v) n same n cuts (omega arith) g.planned),
    )

-- ---- Bytes that fit a version

module _ (bytes : List ℕ) (l : EcLevel) (number limit front : ℕ) (known : capacity (normal number) l ≡ Some limit) where
  abbrev Unfit : ℕ → Type 0
  Unfit place = FitsNot front (take place bytes) (normal number) l

  -- what begins with units that do not fit, does not fit
  pub longer_unfit : (q r : ℕ) → q ≤ r → IsUnitEnd bytes q → IsUnitEnd bytes r → Unfit q → Unfit r
  longer_unfit q r h a b none plan fits =
      let us = units bytes in
      let order = unit-order bytes q r a b h in
      let short : units (take q bytes) ≡ take a.0 us = ap (λ k. units (take k bytes)) a.2 ∙ (units-split bytes a.0).0 in
      let long : units (take r bytes) ≡ take b.0 us = ap (λ k. units (take k bytes)) b.2 ∙ (units-split bytes b.0).0 in
      let all : a.0 - 0 ≡ a.0 = omega arith in
      let inner : units (take q bytes) ≡ slice_range (units (take r bytes)) 0 a.0 =
      subst (λ k. units (take q bytes) ≡ take k (units (take r bytes))) (sym all)
      (short ∙ sym (ap (λ cs. take a.0 cs) long ∙ take-take a.0 b.0 us order)) in
      let w = within-plan (normal number) (take r bytes) (take q bytes) 0 a.0 plan (omega arith) inner fits.planned in
      none w.0 (fits_normal front number fits.limit (take q bytes) l w.0 w.1 fits.has_level (omega (arith, fits.within, w.2)))

  module _ (n place : ℕ) (within : n ≤ length (parsed bytes)) (ends : Adjoin 0 (take n (parsed bytes)) place) where
    first : AreFirst bytes n
    first = first_units bytes n within

    abbrev size : ℕ
    size = total_size (take first.k (units bytes))

    here : size ≡ place
    here = adjoin-same 0 size place (take n (parsed bytes)) first.adjoin ends

    is_end : IsUnitEnd bytes size
    is_end = (first.k, first.within, refl)

    plan : (plan : List Segment) × IsChosenPlan (take n (parsed bytes)) (normal number) plan
        × (total_bits (normal number) plan ≡ bits_before (parsed bytes) (normal number) n)
    plan = first_plan (parsed bytes) (normal number) n within

    chosen : IsChosenPlan (parsed (take size bytes)) (normal number) plan.0
    chosen = subst (λ ss. IsChosenPlan ss (normal number) plan.0) (sym first.alone) plan.1

    -- First bytes up to the end of segments whose plan is small fit,
    pub first_fit : front + bits_before (parsed bytes) (normal number) n ≤ limit → (q : ℕ) → IsUnitEnd bytes q → q ≤ place → Unfit q → ⊥
    first_fit few q a h none =
        longer_unfit q size (omega (arith, h, here)) a is_end none plan.0
        (fits_normal front number limit (take size bytes) l plan.0 (chosen-planned (parsed (take size bytes)) (normal number) plan.0 chosen) known
        (omega (arith, few, plan.2)))

    -- and those past the end of segments whose plan is large do not.
    pub first_unfit : limit < front + bits_before (parsed bytes) (normal number) n → (q : ℕ) → IsUnitEnd bytes q → place ≤ q → Unfit q
    first_unfit over q a h =
        longer_unfit size q (omega (arith, h, here)) is_end a
        (too_many front (take size bytes) (normal number) l plan.0 limit chosen known (omega (arith, over, plan.2)))

  -- First bytes before a segment fit if the plan of the segments before it is small,
  pub begin_fit : (n : ℕ) → n < length (parsed bytes) → front + bits_before (parsed bytes) (normal number) n ≤ limit →
      (q : ℕ) → IsUnitEnd bytes q → q ≤ (segment_at (parsed bytes) n).begin → Unfit q → ⊥
  begin_fit n h few q a k none =
      first_fit n (segment_at (parsed bytes) n).begin (omega (arith, h)) (adjoin-begin 0 (length bytes) (parsed bytes) n (parsed-adjoin bytes) h) few q a k none

  -- those past its end do not if the plan with it is large,
  pub end_unfit : (n : ℕ) → n < length (parsed bytes) → limit < front + bits_before (parsed bytes) (normal number) (n + 1) →
      (q : ℕ) → IsUnitEnd bytes q → (segment_at (parsed bytes) n).end ≤ q → Unfit q
  end_unfit n h over q a k =
      let next : n + 1 ≡ suc n = omega arith in
      first_unfit (suc n) (segment_at (parsed bytes) n).end (omega (arith, h)) (adjoin-end 0 (length bytes) (parsed bytes) n (parsed-adjoin bytes) h)
      (subst (λ m. limit < front + bits_before (parsed bytes) (normal number) m) next over) q a k

  -- and all fit if the plan of all is small.
  pub all_fit : front + bits_before (parsed bytes) (normal number) (length (parsed bytes)) ≤ limit →
      (q : ℕ) → IsUnitEnd bytes q → q ≤ length bytes → Unfit q → ⊥
  all_fit few q a k none =
      first_fit (length (parsed bytes)) (length bytes) (omega arith)
      (subst (λ ss. Adjoin 0 ss (length bytes)) (sym (take-length (parsed bytes))) (parsed-adjoin bytes)) few q a k none
