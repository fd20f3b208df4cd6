-- The segments of first bytes that end within a segment.
use Rattle.qrcode_bits.proofs.Prelude.{◌≡◌, ℕ, zero, suc, ◌+◌, ◌-◌, ◌*◌, ◌<◌, ◌≤◌, List, [], ◌∷◌, ◌++◌, Bool, true, false, length, take, refl, sym, ap}
use Rattle.qrcode_bits.proofs.Prelude.{◌∙◌, subst, arith, inl, inr, ◌⊎◌, cases_lt, get_or, get_or-map, length-map, map-append, map}
use Rattle.qrcode_bits.proofs.Prelude.{Segment, Class, Run, Other, Digit}
use Rattle.qrcode_bits.proofs.Prelude.{class_size, class_mode, joins, add_unit, runs, units, run_segment, parsed, segment_at, total_size, IsUnitEnd, EcLevel}
use Rattle.qrcode_bits.proofs.Prelude.{capacity, normal, Some, bits_before, FitsNot, take-length, Version}
use Rattle.std.proofs.lemmas.List.{take-map}
use Rattle.std.proofs.Math.Seq.{take-suc}
use Rattle.qrcode_bits.specs.Optimizer.{cut_at, unit_size, AreCuttable, AreLastUnits, IsUnitsIn}
use Rattle.qrcode_bits.proofs.{Adjoining.Adjoin, Adjoining.Adjoin-runs, Adjoining.Adjoin-at, Adjoining.parsed-adjoin, Adjoining.size-append, Adjoining.size-cut}
use Rattle.qrcode_bits.proofs.{Adjoining.units-size, Runs.class_size-some, Cutting.units-split, Cutting.unit-order}
use Rattle.qrcode_bits.proofs.{CutGroups.cut-length, CutGroups.one_or_two, Classes.HasSmallHeaders, Adjoining.adjoin-short, Adjoining.adjoin-linear}
use Rattle.qrcode_bits.proofs.Firsts.{add-joined, add-apart, adjoin-begin, adjoin-end, adjoin-same, first_units, all_fit, begin_fit, first_unfit, longer_unfit}

-- ---- Runs

abbrev ended : Run → ℕ → Run
ended r e = record { class = r.class; begin = r.begin; end = e }

abbrev run_at : List Run → ℕ → Run
run_at rs i = get_or rs i (record { class = Digit; begin = 0; end = 0 })

-- Some runs are the first of others, of which the last ends at `e`; its units are of a class.
record IsCutOf (whole less : List Run) (e : ℕ) (last : Class) : Type 0 where
  index : ℕ
  inside : index < length whole
  cut : less ≡ take index whole ++ ended (run_at whole index) e ∷ []
  within : e ≤ (run_at whole index).end
  class : (run_at whole index).class ≡ last

joins-same : (c d : Class) → joins c d ≡ true → c ≡ d
joins-same c d h = grind arith

-- with a unit before them
module _ (c : Class) (b : ℕ) (r : Run) (rest : List Run) (e : ℕ) (last : Class) where
  more-joined : joins c r.class ≡ true → (less : List Run) → IsCutOf (r ∷ rest) less e last → IsCutOf (add_unit c b (r ∷ rest)) (add_unit c b less) e last
  more-joined t less w = subst (λ z. IsCutOf z (add_unit c b less) e last) (sym (add-joined c b r rest t)) (at w.index w.inside w.cut w.within w.class) where
    at : (i : ℕ) → i < length (r ∷ rest) → less ≡ take i (r ∷ rest) ++ ended (run_at (r ∷ rest) i) e ∷ [] → e ≤ (run_at (r ∷ rest) i).end →
        (run_at (r ∷ rest) i).class ≡ last → IsCutOf (record { class = c; begin = b; end = r.end } ∷ rest) (add_unit c b less) e last
    at zero h k l m = record {
      index = 0;
      inside = omega arith;
      cut = ap (add_unit c b) k ∙ add-joined c b (ended r e) [] t;
      within = l;
      class = joins-same c r.class t ∙ m;
    }
    at (suc i) h k l m = record {
      index = suc i;
      inside = h;
      cut = ap (add_unit c b) k ∙ add-joined c b r _ t;
      within = l;
      class = m;
    }

  more-apart : joins c r.class ≡ false → (less : List Run) → IsCutOf (r ∷ rest) less e last → IsCutOf (add_unit c b (r ∷ rest)) (add_unit c b less) e last
  more-apart t less w = subst (λ z. IsCutOf z (add_unit c b less) e last) (sym (add-apart c b r rest t)) (at w.index w.inside w.cut w.within w.class) where
    at : (i : ℕ) → i < length (r ∷ rest) → less ≡ take i (r ∷ rest) ++ ended (run_at (r ∷ rest) i) e ∷ [] → e ≤ (run_at (r ∷ rest) i).end →
        (run_at (r ∷ rest) i).class ≡ last →
        IsCutOf (record { class = c; begin = b; end = b + class_size c } ∷ r ∷ rest) (add_unit c b less) e last
    at zero h k l m = record {
      index = 1;
      inside = omega arith;
      cut = ap (add_unit c b) k ∙ add-apart c b (ended r e) [] t;
      within = l;
      class = m;
    }
    at (suc i) h k l m = record {
      index = suc (suc i);
      inside = omega (arith, h);
      cut = ap (add_unit c b) k ∙ add-apart c b r _ t;
      within = l;
      class = m;
    }

  more : (t : Bool) → joins c r.class ≡ t → (less : List Run) → IsCutOf (r ∷ rest) less e last → IsCutOf (add_unit c b (r ∷ rest)) (add_unit c b less) e last
  more true t = more-joined t
  more false t = more-apart t

module _ (c : Class) (b : ℕ) where
  one-tested : (r : Run) (rest : List Run) (t : Bool) → joins c r.class ≡ t → b + class_size c ≤ r.end →
      IsCutOf (add_unit c b (r ∷ rest)) (record { class = c; begin = b; end = b + class_size c } ∷ []) (b + class_size c) c
  one-tested r rest true t h = subst (λ z. IsCutOf z (record { class = c; begin = b; end = b + class_size c } ∷ []) (b + class_size c) c)
      (sym (add-joined c b r rest t)) (record { index = 0; inside = omega arith; cut = refl; within = h; class = refl })
  one-tested r rest false t h = subst (λ z. IsCutOf z (record { class = c; begin = b; end = b + class_size c } ∷ []) (b + class_size c) c)
      (sym (add-apart c b r rest t)) (record { index = 0; inside = omega arith; cut = refl; within = omega arith; class = refl })

  one : (rs : List Run) (to : ℕ) → Adjoin (b + class_size c) (map run_segment rs) to →
      IsCutOf (add_unit c b rs) (record { class = c; begin = b; end = b + class_size c } ∷ []) (b + class_size c) c
  one [] to h = record { index = 0; inside = omega arith; cut = refl; within = omega arith; class = refl }
  one (r ∷ rest) to h = one-tested r rest (joins c r.class) refl (omega (arith, h.1))

longer : (c : Class) (b : ℕ) (whole less : List Run) (e : ℕ) (last : Class) → IsCutOf whole less e last →
    IsCutOf (add_unit c b whole) (add_unit c b less) e last
longer c b [] less e last w = absurd (omega (arith, w.inside))
longer c b (r ∷ rest) less e last w = more c b r rest e last (joins c r.class) refl less w

-- the runs of first units
cut_runs : (b : ℕ) (cs : List Class) (m : ℕ) → m < length cs →
    IsCutOf (runs b cs) (runs b (take (suc m) cs)) (b + total_size (take (suc m) cs)) (get_or cs m Other)
cut_runs b [] m h = absurd (omega (arith, h))
cut_runs b (c ∷ cs) zero h =
    let e : b + class_size c ≡ b + (class_size c + 0) = omega arith in
    subst (λ z. IsCutOf (runs b (c ∷ cs)) (runs b (c ∷ [])) z c) e (one c b (runs (b + class_size c) cs) _ (Adjoin-runs (b + class_size c) cs))
cut_runs b (c ∷ cs) (suc m) h =
    let w = cut_runs (b + class_size c) cs m (omega (arith, h)) in
    let e : b + class_size c + total_size (take (suc m) cs) ≡ b + (class_size c + total_size (take (suc m) cs)) = omega arith in
    subst (λ z. IsCutOf (runs b (c ∷ cs)) (runs b (c ∷ take (suc m) cs)) z (get_or cs m Other)) e
    (longer c b (runs (b + class_size c) cs) (runs (b + class_size c) (take (suc m) cs)) (b + class_size c + total_size (take (suc m) cs))
    (get_or cs m Other) w)

-- ---- Segments

adjoin-before : (from to : ℕ) (ss : List Segment) (i j : ℕ) → Adjoin from ss to → i < j → j < length ss → (segment_at ss i).end ≤ (segment_at ss j).begin
adjoin-before from to [] i j h k l = absurd (omega (arith, l))
adjoin-before from to (s ∷ ss) i zero h k l = absurd (omega (arith, k))
adjoin-before from to (s ∷ ss) zero (suc j) h k l = (Adjoin-at s.end to ss j h.2 (omega (arith, l))).0
adjoin-before from to (s ∷ ss) (suc i) (suc j) h k l = adjoin-before s.end to ss i j h.2 (omega (arith, k)) (omega (arith, l))

adjoin-last : (from to : ℕ) (ss : List Segment) (s : Segment) → Adjoin from (ss ++ s ∷ []) to → s.begin < s.end
adjoin-last from to [] s h = omega (arith, h.0, h.1)
adjoin-last from to (t ∷ ss) s h = adjoin-last t.end to ss s h.2

pub adjoin-cut : (from to : ℕ) (ss : List Segment) (i place : ℕ) → Adjoin from ss to → i < length ss → (segment_at ss i).begin < place →
    Adjoin from (cut_at ss i place) place
adjoin-cut from to [] i place h k l = absurd (omega (arith, k))
adjoin-cut from to (s ∷ ss) zero place h k l = (h.0, omega (arith, h.0, l), refl)
adjoin-cut from to (s ∷ ss) (suc i) place h k l = (h.0, h.1, adjoin-cut s.end to ss i place h.2 (omega (arith, k)) l)

abbrev ending : Segment → ℕ → Segment
ending s e = record s { end = e }

-- in which segment first bytes end
record IsIn (bytes : List ℕ) (m q : ℕ) : Type 0 where
  index : ℕ
  inside : index < length (parsed bytes)
  cut : parsed (take q bytes) ≡ cut_at (parsed bytes) index q
  begin : (segment_at (parsed bytes) index).begin < q
  within : q ≤ (segment_at (parsed bytes) index).end
  mode : (segment_at (parsed bytes) index).mode ≡ class_mode (get_or (units bytes) m Other)

in_segment : (bytes : List ℕ) (m q : ℕ) → m < length (units bytes) → q ≡ total_size (take (suc m) (units bytes)) → IsIn bytes m q
in_segment bytes m q h is =
    let us = units bytes in
    let w = cut_runs 0 us m h in
    let size : 0 + total_size (take (suc m) us) ≡ q = omega (arith, is) in
    let at : segment_at (parsed bytes) w.index ≡ run_segment (run_at (runs 0 us) w.index) = get_or-map run_segment (runs 0 us) w.index _ _ w.inside in
    let short : parsed (take q bytes) ≡ map run_segment (runs 0 (take (suc m) us)) =
    ap (λ k. map run_segment (runs 0 (units (take k bytes)))) is ∙ ap (λ cs. map run_segment (runs 0 cs)) (units-split bytes (suc m)).0 in
    let one : ending (segment_at (parsed bytes) w.index) q ≡ run_segment (ended (run_at (runs 0 us) w.index) (0 + total_size (take (suc m) us))) =
    ap (λ s. ending s q) at ∙ ap (λ k. run_segment (ended (run_at (runs 0 us) w.index) k)) (sym size) in
    let cut : parsed (take q bytes) ≡ cut_at (parsed bytes) w.index q =
    short ∙ (ap (map run_segment) w.cut ∙ (map-append run_segment (take w.index (runs 0 us)) _
    ∙ (ap (λ z. z ++ run_segment (ended (run_at (runs 0 us) w.index) (0 + total_size (take (suc m) us))) ∷ []) (sym (take-map run_segment w.index (runs 0 us)))
    ∙ ap (λ z. take w.index (parsed bytes) ++ z ∷ []) (sym one)))) in
    record {
      index = w.index;
      inside = omega (arith, length-map (runs 0 us) run_segment, w.inside);
      cut = cut;
      begin = adjoin-last 0 _ (take w.index (parsed bytes)) (record (segment_at (parsed bytes) w.index) { end = q })
          (subst (λ ss. Adjoin 0 ss (length (take q bytes))) cut (parsed-adjoin (take q bytes)));
      within = rw at (omega (arith, w.within, size));
      mode = rw at (ap class_mode w.class);
    }

unit_size-class : (c : Class) → unit_size (class_mode c) ≡ class_size c
unit_size-class c = grind arith

size-suc : (cs : List Class) (n : ℕ) → n < length cs → total_size (take (suc n) cs) ≡ total_size (take n cs) + class_size (get_or cs n Other)
size-suc cs n h =
    let e = ap total_size (take-suc cs n Other h) in
    let f = size-append (take n cs) (get_or cs n Other ∷ []) in omega (arith, e, f)

size-most : (cs : List Class) (n m : ℕ) → n ≤ m → total_size (take n cs) ≤ total_size (take m cs)
size-most cs n m h = let w = size-cut cs n m h in omega (arith, w)

module _ (bytes : List ℕ) (i : ℕ) (inside : i < length (parsed bytes)) where
  abbrev here : Segment
  here = segment_at (parsed bytes) i

  abbrev unit : ℕ
  unit = unit_size here.mode

  pub is_begin : IsUnitEnd bytes here.begin
  is_begin =
      let w = first_units bytes i (omega (arith, inside)) in
      (w.k, w.within, adjoin-same 0 _ _ (take i (parsed bytes)) (adjoin-begin 0 (length bytes) (parsed bytes) i (parsed-adjoin bytes) inside) w.adjoin)

  pub is_end : IsUnitEnd bytes here.end
  is_end =
      let w = first_units bytes (suc i) (omega (arith, inside)) in
      (w.k, w.within, adjoin-same 0 _ _ (take (suc i) (parsed bytes)) (adjoin-end 0 (length bytes) (parsed bytes) i (parsed-adjoin bytes) inside) w.adjoin)

  some : here.begin < here.end
  some = (Adjoin-at 0 (length bytes) (parsed bytes) i (parsed-adjoin bytes) inside).1

  -- the segment of first bytes that end in it
  is-index : (m q : ℕ) (w : IsIn bytes m q) → here.begin < q → q ≤ here.end → w.index ≡ i
  is-index m q w h k = elim (cases_lt w.index i) [
    | inl less ↦ (let o = adjoin-before 0 (length bytes) (parsed bytes) w.index i (parsed-adjoin bytes) less inside in absurd (omega (arith, o, w.within, h)))
    | inr past ↦ elim (cases_lt i w.index) [
      | inl more ↦ (let o = adjoin-before 0 (length bytes) (parsed bytes) i w.index (parsed-adjoin bytes) more w.inside in
          absurd (omega (arith, o, w.begin, k)))
      | inr equal ↦ omega (arith, past, equal)
    ]
  ]

  known : (q : ℕ) → IsUnitEnd bytes q → here.begin < q → q ≤ here.end → (m : ℕ) × (m < length (units bytes)) × (q ≡ total_size (take (suc m) (units bytes)))
  known q (zero, few, is) h k = absurd (omega (arith, is, h))
  known q (suc m, few, is) h k = (m, omega (arith, few), is)

  -- First bytes that end in a segment have the segments up to it.
  pub cut_parsed : (q : ℕ) → IsUnitEnd bytes q → here.begin < q → q ≤ here.end → parsed (take q bytes) ≡ cut_at (parsed bytes) i q
  cut_parsed q a h k =
      let n = known q a h k in
      let w = in_segment bytes n.0 q n.1 n.2 in
      w.cut ∙ ap (λ j. cut_at (parsed bytes) j q) (is-index n.0 q w h k)

  order : is_begin.0 ≤ is_end.0
  order = unit-order bytes here.begin here.end is_begin is_end (let s = some in omega (arith, s))

  -- the units of the segment, one after the other
  steps : (k : ℕ) → is_begin.0 + k ≤ is_end.0 → total_size (take (is_begin.0 + k) (units bytes)) ≡ here.begin + unit * k
  steps zero h = (let e : is_begin.0 + 0 ≡ is_begin.0 = omega arith in rw e (omega (arith, is_begin.2)))
  steps (suc k) h =
      let us = units bytes in
      let at : is_begin.0 + suc k ≡ suc (is_begin.0 + k) = omega arith in
      let before = steps k (omega (arith, h)) in
      let within : is_begin.0 + k < length us = omega (arith, h, is_end.1) in
      let q = total_size (take (suc (is_begin.0 + k)) us) in
      let next = size-suc us (is_begin.0 + k) within in
      let one = class_size-some (get_or us (is_begin.0 + k) Other) in
      let from = size-most us is_begin.0 (is_begin.0 + k) (omega arith) in
      let to = size-most us (suc (is_begin.0 + k)) is_end.0 (omega (arith, h)) in
      let more : here.begin < q = omega (arith, is_begin.2, next, one, from) in
      let most : q ≤ here.end = omega (arith, is_end.2, to) in
      let w = in_segment bytes (is_begin.0 + k) q within refl in
      let mode : here.mode ≡ class_mode (get_or us (is_begin.0 + k) Other) =
      subst (λ j. (segment_at (parsed bytes) j).mode ≡ class_mode (get_or us (is_begin.0 + k) Other)) (is-index (is_begin.0 + k) q w more most) w.mode in
      let size : unit ≡ class_size (get_or us (is_begin.0 + k) Other) = ap unit_size mode ∙ unit_size-class (get_or us (is_begin.0 + k) Other) in
      rw at (grind (arith, before, next, size))

  pub end_steps : here.end ≡ here.begin + unit * (is_end.0 - is_begin.0)
  end_steps =
      let o = order in let at : is_begin.0 + (is_end.0 - is_begin.0) ≡ is_end.0 = omega (arith, o) in
      let w = steps (is_end.0 - is_begin.0) (omega (arith, o)) in
      is_end.2 ∙ (ap (λ n. total_size (take n (units bytes))) (sym at) ∙ w)

  pub whole_units : (count : ℕ) × (0 < count) × IsUnitsIn (parsed bytes) i count here.end
  whole_units =
      let e = end_steps in
      (is_end.0 - is_begin.0, above unit (is_end.0 - is_begin.0) here.begin here.end some e, record { is = e; within = omega arith }) where
        above : (u k b e : ℕ) → b < e → e ≡ b + u * k → 0 < k
        above u zero b e h is = absurd (let z : u * 0 ≡ 0 = grind arith in omega (arith, h, is, z))
        above u (suc k) b e h is = omega arith

  scaled : (u a b : ℕ) → (u ≡ 1) ⊎ (u ≡ 2) → u * a ≤ u * b → a ≤ b
  scaled u a b (inl e) h = let k : 1 * a ≤ 1 * b = rw e at h in omega (arith, k)
  scaled u a b (inr e) h = let k : 2 * a ≤ 2 * b = rw e at h in omega (arith, k)

  -- Whole units after its begin end at a unit,
  pub units_end : (count q : ℕ) → IsUnitsIn (parsed bytes) i count q → IsUnitEnd bytes q
  units_end count q w =
      let e = end_steps in
      let few = scaled unit count (is_end.0 - is_begin.0) (one_or_two here.mode) (omega (arith, w.is, w.within, e)) in
      let o = order in
      (is_begin.0 + count, omega (arith, few, o, is_end.1), w.is ∙ sym (steps count (omega (arith, few, o))))

  -- and units that end in it are whole units after its begin.
  pub units_in : (q : ℕ) → IsUnitEnd bytes q → here.begin ≤ q → q ≤ here.end → (count : ℕ) × (q ≡ here.begin + unit * count)
  units_in q a h k =
      let low = unit-order bytes here.begin q is_begin a h in
      let high = unit-order bytes q here.end a is_end k in
      let at : is_begin.0 + (a.0 - is_begin.0) ≡ a.0 = omega (arith, low) in
      (a.0 - is_begin.0, a.2 ∙ (ap (λ n. total_size (take n (units bytes))) (sym at) ∙ steps (a.0 - is_begin.0) (omega (arith, low, high))))

  between : (u c k : ℕ) → (u ≡ 1) ⊎ (u ≡ 2) → u * c < u * k → u * k < u * (c + 1) → ⊥
  between u c k (inl e) h l = let a : 1 * c < 1 * k = rw e at h in let b : 1 * k < 1 * (c + 1) = rw e at l in omega (arith, a, b)
  between u c k (inr e) h l = let a : 2 * c < 2 * k = rw e at h in let b : 2 * k < 2 * (c + 1) = rw e at l in omega (arith, a, b)

  -- No units end between two places a unit apart.
  pub none_between : (count sure past q : ℕ) → IsUnitsIn (parsed bytes) i count sure → IsUnitsIn (parsed bytes) i (count + 1) past →
      IsUnitEnd bytes q → sure < q → q < past → ⊥
  none_between count sure past q a b d h k =
      let w = units_in q d (omega (arith, a.is, h)) (omega (arith, b.within, k)) in
      between unit count w.0 (one_or_two here.mode) (omega (arith, a.is, w.1, h)) (omega (arith, b.is, w.1, k))

-- ---- Bytes that fit a version

module _ (bytes : List ℕ) (l : EcLevel) (number limit front : ℕ) (known : capacity (normal number) l ≡ Some limit) where
  pub whole_fits : front + bits_before (parsed bytes) (normal number) (length (parsed bytes)) ≤ limit → FitsNot front bytes (normal number) l → ⊥
  whole_fits few none =
      all_fit bytes l number limit front known few (length bytes) (
        length (units bytes),
        omega arith,
        sym (ap total_size (take-length (units bytes)) ∙ units-size bytes),
      ) (omega arith)
      (subst (λ z. FitsNot front z (normal number) l) (sym (take-length bytes)) none)

  pub whole_unfit : limit < front + bits_before (parsed bytes) (normal number) (length (parsed bytes)) → FitsNot front bytes (normal number) l
  whole_unfit over =
      subst (λ z. FitsNot front z (normal number) l) (take-length bytes)
      (first_unfit bytes l number limit front known (length (parsed bytes)) (length bytes) (omega arith)
      (subst (λ ss. Adjoin 0 ss (length bytes)) (sym (take-length (parsed bytes))) (parsed-adjoin bytes)) over (length bytes) (
        length (units bytes),
        omega arith,
        sym (ap total_size (take-length (units bytes)) ∙ units-size bytes),
      ) (omega arith))

-- Parsed segments may be cut within one of them.
pub parsed_cuttable : (bytes : List ℕ) (v : Version) → HasSmallHeaders v → length bytes ≤ 7089 → AreCuttable 8192 (parsed bytes) v
parsed_cuttable bytes v small short =
    let inner : (i place : ℕ) → i < length (parsed bytes) → (segment_at (parsed bytes) i).begin < place → Adjoin 0 (cut_at (parsed bytes) i place) place =
    λ i place inside from. adjoin-cut 0 (length bytes) (parsed bytes) i place (parsed-adjoin bytes) inside from in
    let few : (i place : ℕ) → i < length (parsed bytes) → place ≤ (segment_at (parsed bytes) i).end → place ≤ 7089 =
    λ i place inside to. (let w = Adjoin-at 0 (length bytes) (parsed bytes) i (parsed-adjoin bytes) inside in omega (arith, w.2, to, short)) in
    record {
      units = λ i inside. (whole_units bytes i inside);
      below = λ i place inside from to. adjoin-short place (cut_at (parsed bytes) i place) (inner i place inside from) (few i place inside to);
      linear = λ i place inside from to. adjoin-linear place (cut_at (parsed bytes) i place) v (inner i place inside from)
          (λ m. (let n = few i place inside to in omega (arith, small m, n)));
    }

zero_units : (sure begin u count : ℕ) → sure ≡ begin + u * count → count ≡ 0 → sure ≡ begin
zero_units sure begin u count is e = let z : u * 0 ≡ 0 = grind arith in omega (arith, rw e at is, z)

one_more : (u k sure past begin : ℕ) → (u ≡ 1) ⊎ (u ≡ 2) → sure ≡ begin + u * k → past ≡ begin + u * (k + 1) → sure < past
one_more u k sure past begin (inl e) a b = let h = rw e at a in let i = rw e at b in omega (arith, h, i)
one_more u k sure past begin (inr e) a b = let h = rw e at a in let i = rw e at b in omega (arith, h, i)

-- What the last units that take few bits say of first bytes: up to them these fit, and past them
-- they do not.
module _ (bytes : List ℕ) (l : EcLevel) (number limit ahead : ℕ) (known : capacity (normal number) l ≡ Some limit) (room : ahead ≤ limit) (sure past : ℕ)
    (w : AreLastUnits (parsed bytes) (normal number) (limit - ahead) sure past) where
  abbrev Unfit : ℕ → Type 0
  Unfit q = FitsNot ahead (take q bytes) (normal number) l

  some_units : (u k : ℕ) → (u ≡ 1) ⊎ (u ≡ 2) → 0 < k → 0 < u * k
  some_units u k (inl e) h = rw e (omega (arith, h))
  some_units u k (inr e) h = rw e (omega (arith, h))

  cut-bits : (q : ℕ) → IsUnitEnd bytes q → (segment_at (parsed bytes) w.index).begin < q → q ≤ (segment_at (parsed bytes) w.index).end →
      bits_before (parsed (take q bytes)) (normal number) (length (parsed (take q bytes)))
      ≡ bits_before (cut_at (parsed bytes) w.index q) (normal number) (w.index + 1)
  cut-bits q a h k =
      let e = cut_parsed bytes w.index w.inside q a h k in
      ap (λ ss. bits_before ss (normal number) (length ss)) e
      ∙ ap (bits_before (cut_at (parsed bytes) w.index q) (normal number)) (cut-length (parsed bytes) w.index q w.inside)

  sure-fits : (n : ℕ) → w.count ≡ n → Unfit sure → ⊥
  sure-fits zero e none =
      let at : sure ≡ (segment_at (parsed bytes) w.index).begin = zero_units _ _ _ _ w.sure_is.is e in
      begin_fit bytes l number limit ahead known w.index w.inside (omega (arith, w.before, room)) sure
      (units_end bytes w.index w.inside w.count sure w.sure_is) (omega (arith, at)) none
  sure-fits (suc n) e none =
      let some : 0 < w.count = omega (arith, e) in
      let size = some_units (unit_size (segment_at (parsed bytes) w.index).mode) w.count (one_or_two (segment_at (parsed bytes) w.index).mode) some in
      let few = w.fits some in
      let bits = cut-bits sure (units_end bytes w.index w.inside w.count sure w.sure_is) (omega (arith, w.sure_is.is, size)) w.sure_is.within in
      whole_fits (take sure bytes) l number limit ahead known (omega (arith, bits, few, room)) none

  pub last_fit : (q : ℕ) → IsUnitEnd bytes q → q ≤ sure → Unfit q → ⊥
  last_fit q a h none = sure-fits w.count refl
      (longer_unfit bytes l number limit ahead known q sure h a (units_end bytes w.index w.inside w.count sure w.sure_is) none)

  pub last_unfit : (q : ℕ) → IsUnitEnd bytes q → past ≤ q → Unfit q
  last_unfit q a h =
      let mode = (segment_at (parsed bytes) w.index).mode in
      let size = some_units (unit_size mode) (w.count + 1) (one_or_two mode) (omega arith) in
      let end = units_end bytes w.index w.inside (w.count + 1) past w.past_is in
      let bits = cut-bits past end (omega (arith, w.past_is.is, size)) w.past_is.within in
      longer_unfit bytes l number limit ahead known past q h end a
      (whole_unfit (take past bytes) l number limit ahead known (omega (arith, bits, w.over, room)))

  pub last_close : (q : ℕ) → IsUnitEnd bytes q → sure < q → q < past → ⊥
  last_close q a h k = none_between bytes w.index w.inside w.count sure past q w.sure_is w.past_is a h k

  pub last_less : sure < past
  last_less = one_more (unit_size (segment_at (parsed bytes) w.index).mode) w.count sure past _
      (one_or_two (segment_at (parsed bytes) w.index).mode) w.sure_is.is w.past_is.is
