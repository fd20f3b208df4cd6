-- What the lanes that are kept have is what they have beside all lanes.
use Rattle.std.proofs.Common.{◌≡◌, ◌≢◌, ℕ, zero, suc, ◌+◌, ◌≤◌, ◌<◌, inl, inr, Bool, true, false, List, [], ◌∷◌, length, get_or, drop, min, refl, ap, sym, ◌∙◌, subst, arith}
use Rattle.std.specs.Prelude.{All, if◌then◌else◌}
use Rattle.std.proofs.Math.ListN.{set, length-set}
use Rattle.std.proofs.lemmas.Bool.{cases_Bool, cases_eq, cases_lt}
use Rattle.std.proofs.lemmas.Grind.{common_steps}
use Rattle.std.proofs.lemmas.List.Elements.{All-head, All-tail, All-drop}
use Rattle.qrcode_base.specs.declared.types.Mode.{Mode}
use Rattle.qrcode_base.specs.declared.types.Mode.TheVariants.{Numeric, Alphanumeric, Byte, Kanji}
use Rattle.text_plans.specs.declared.facts.Facts.{Facts}
use Rattle.text_plans.specs.declared.row.Rest.{Rest}
use Rattle.text_plans.specs.declared.row.TheConstants.{LIMIT}
use Rattle.text_plans.specs.declared.rules.Rules.{Rules}
use Rattle.text_plans.specs.Keeping.{AreEnough, StandFor, Dominates, IsKeptLane, IsRowOf, KeepsEnough, TakesNoMore, switch_kept}
use Rattle.text_plans.specs.Search.{begin_in, begin_least, can_write, go_on, lane_before, next_bits, no_rest, onward, rests_of, switch_least, weight_if}
use Rattle.text_plans.proofs.Rows.{entry, entry_end, entry_step, fresh_is}
use Rattle.text_plans.proofs.Weights.{onward_is}

-- ---- A row, lane by lane

-- The lanes that are kept, up to one, are as they are to be, and the others are as they were.
abbrev AreUpTo : (ℕ → Rest) → List Bool → List Rest → List Rest → ℕ → Type 0
AreUpTo made kept old row lane =
    (length row ≡ 17)
    × ((k : ℕ) → k < lane → IsKeptLane kept k → get_or row k no_rest ≡ made k)
    × ((k : ℕ) → lane ≤ k → get_or row k no_rest ≡ get_or old k no_rest)

pub lane_written : (made : ℕ → Rest) (kept : List Bool) (old row next : List Rest) (lane : ℕ) (x : Rest) →
    length row ≡ 17 → lane < 17 → ((k : ℕ) → k < lane → IsKeptLane kept k → get_or row k no_rest ≡ made k) →
    ((k : ℕ) → lane ≤ k → get_or row k no_rest ≡ get_or old k no_rest) → x ≡ made lane → next ≡ set row lane x →
    AreUpTo made kept old next (lane + 1)
lane_written made kept old row next lane x long inside done left is e =
    let within : lane < length row = omega (arith, long) in
    rw e (
      length-set row lane x ∙ long,
      λ k below keeps. grind (arith, common_steps, done k, keeps, is, within),
      λ k above. grind (arith, common_steps, left k, within),
    )

pub lane_left : (made : ℕ → Rest) (kept : List Bool) (old row next : List Rest) (lane : ℕ) →
    length row ≡ 17 → ((k : ℕ) → k < lane → IsKeptLane kept k → get_or row k no_rest ≡ made k) →
    ((k : ℕ) → lane ≤ k → get_or row k no_rest ≡ get_or old k no_rest) → get_or kept lane false ≡ false → next ≡ row →
    AreUpTo made kept old next (lane + 1)
lane_left made kept old row next lane long done left skipped e =
    rw e (
      long,
      λ k below keeps. grind (arith, common_steps, done k, keeps, skipped),
      λ k above. left k (omega arith),
    )

-- ---- What a lane that dominates another has is no more

pub domination : (kanji_lane a b c : ℕ) (all : List Facts) → Dominates kanji_lane a b all → Dominates kanji_lane b c all → Dominates kanji_lane a c all
domination kanji_lane a b c all h k = record {
  from = h.from;
  last = h.last;
  kanji = λ e. h.kanji (k.kanji e);
  sizes = λ n d inside some.
      let first = k.sizes n d inside some in
      let next = h.sizes n d inside first.0 in (next.0, omega (arith, first.1, next.1));
}

pub itself : (kanji_lane lane : ℕ) (all : List Facts) → 1 ≤ lane → lane ≤ 15 → Dominates kanji_lane lane lane all
itself kanji_lane lane all low high = record {
  from = low;
  last = high;
  kanji = λ e. e;
  sizes = λ n d inside some. (some, omega arith);
}

later : (kanji_lane to lane : ℕ) (f : Facts) (all : List Facts) → Dominates kanji_lane to lane (f ∷ all) → Dominates kanji_lane to lane all
later kanji_lane to lane f all h = record {
  from = h.from;
  last = h.last;
  kanji = h.kanji;
  sizes = All-tail (λ (facts : Facts). TakesNoMore to lane facts.sizes) f all h.sizes;
}

weight_order : (a b : Bool) (w v : ℕ) → (b ≡ true → (a ≡ true) × (w ≤ v)) → weight_if a w ≤ weight_if b v
weight_order true true w v h = let order = (h refl).1 in omega arith
weight_order false true w v h = absurd (let e : false ≡ true = (h refl).0 in cc)
weight_order true false w v h = omega arith
weight_order false false w v h = omega arith

module _ (rules : Rules) (to lane : ℕ) where
  writes : (f : Facts) (mode : Mode) → (rules.kanji_lane ≡ lane → rules.kanji_lane ≡ to) → TakesNoMore to lane f.sizes → (count : ℕ) →
      can_write rules f lane mode ≡ true →
      (can_write rules f to mode ≡ true) × (next_bits f to mode count ≤ next_bits f lane mode count)
  writes f Numeric kanji sizes count h = (h, omega arith)
  writes f Alphanumeric kanji sizes count h = (h, omega arith)
  writes f Byte kanji sizes count h =
      let some : get_or f.sizes lane 0 ≢ 0 = λ e. grind (arith, common_steps, e, h) in
      let w = sizes some in (grind (arith, common_steps, w.0), omega (arith, w.1))
  writes f Kanji kanji sizes count h =
      let at : rules.kanji_lane ≡ lane = grind (arith, common_steps, h) in
      let there = kanji at in (grind (arith, common_steps, there, h), omega arith)

  begin_order : (f : Facts) (mode : Mode) (x y : Rest) → (rules.kanji_lane ≡ lane → rules.kanji_lane ≡ to) → TakesNoMore to lane f.sizes →
      onward x mode 1 ≤ onward y mode 1 → begin_in rules f to x mode ≤ begin_in rules f lane y mode
  begin_order f mode x y kanji sizes h =
      weight_order (can_write rules f to mode) (can_write rules f lane mode) _ _
      (λ can. let w = writes f mode kanji sizes 0 can in (w.0, omega (arith, w.1, h)))

  go_order : (f : Facts) (mode : Mode) (count : ℕ) (x y : Rest) → (rules.kanji_lane ≡ lane → rules.kanji_lane ≡ to) → TakesNoMore to lane f.sizes →
      onward x mode (count + 1) ≤ onward y mode (count + 1) → go_on rules f to x mode count ≤ go_on rules f lane y mode count
  go_order f mode count x y kanji sizes h =
      weight_order (can_write rules f to mode) (can_write rules f lane mode) _ _
      (λ can. let w = writes f mode kanji sizes count can in (w.0, omega (arith, w.1, h)))

  least_order : (f : Facts) (x y : Rest) → (rules.kanji_lane ≡ lane → rules.kanji_lane ≡ to) → TakesNoMore to lane f.sizes →
      ((mode : Mode) → onward x mode 1 ≤ onward y mode 1) → begin_least rules f to x ≤ begin_least rules f lane y
  unfolding begin_least
  least_order f x y kanji sizes h =
      omega (
        arith,
        begin_order f Numeric x y kanji sizes (h Numeric),
        begin_order f Alphanumeric x y kanji sizes (h Alphanumeric),
        begin_order f Byte x y kanji sizes (h Byte),
        begin_order f Kanji x y kanji sizes (h Kanji),
      )

  pub onward_order : (all : List Facts) → to < 17 → lane < 17 → Dominates rules.kanji_lane to lane all → (mode : Mode) (count : ℕ) →
      onward (entry rules all to) mode count ≤ onward (entry rules all lane) mode count
  onward_order [] low high h mode count = rw (entry_end rules to low) (rw (entry_end rules lane high) (omega arith))
  onward_order (f ∷ all) low high h mode count =
      let below = onward_order all low high (later rules.kanji_lane to lane f all h) in
      let sizes = All-head (λ (facts : Facts). TakesNoMore to lane facts.sizes) f all h.sizes in
      let switched = switch_least rules f (rests_of rules all) 15 in
      rw (entry_step rules f all to low) (rw (entry_step rules f all lane high)
      (omega (
        arith,
        onward_is rules f to switched (entry rules all to) mode count,
        onward_is rules f lane switched (entry rules all lane) mode count,
        fresh_is rules f switched to (entry rules all to),
        fresh_is rules f switched lane (entry rules all lane),
        least_order f (entry rules all to) (entry rules all lane) h.kanji sizes (λ m. below m 1),
        go_order f mode count (entry rules all to) (entry rules all lane) h.kanji sizes (below mode (count + 1)),
      )))

-- ---- Designators

if_at : (b : Bool) (x y z : ℕ) → b ≡ true → y ≤ z → (if b then min x y else x) ≤ z
if_at true x y z h k = omega arith
if_at false x y z h k = absurd (cc)

if_below : (b : Bool) (x y z : ℕ) → x ≤ z → (if b then min x y else x) ≤ z
if_below true x y z h = omega arith
if_below false x y z h = h

if_above : (b : Bool) (s x y z : ℕ) → s ≤ x → (b ≡ true → y ≡ z) → min s y ≤ (if b then min x z else x)
if_above true s x y z h k = let e = k refl in omega (arith, e)
if_above false s x y z h k = omega arith

module _ (rules : Rules) (f : Facts) (all : List Facts) where
  -- What a designator and what follows it weigh.
  after : ℕ → ℕ
  after lane = weight_if true (rules.designator + begin_least rules f lane (entry rules all lane))

  least_above : (bound count : ℕ) → bound ≤ LIMIT → ((lane : ℕ) → 1 ≤ lane → lane ≤ count → bound ≤ after lane) →
      bound ≤ switch_least rules f (rests_of rules all) count
  unfolding switch_least after
  least_above bound zero small h = small
  least_above bound (suc count) small h =
      let first = least_above bound count small (λ lane low high. h lane low (omega arith)) in
      let last = h (suc count) (omega arith) (omega arith) in omega (arith, first, last)

  module _ (row : List Rest) (is : IsRowOf rules all row) where
    kept_small : (count : ℕ) → switch_kept rules f row count ≤ LIMIT
    unfolding switch_kept
    kept_small zero = omega arith
    kept_small (suc count) = let first = kept_small count in grind (arith, common_steps, first)

    kept_at : (count : ℕ) → suc count < 17 → IsKeptLane rules.kept (suc count) → switch_kept rules f row (suc count) ≤ after (suc count)
    unfolding switch_kept after
    kept_at count inside keeps =
        let same = ap (λ (r : Rest). begin_least rules f (suc count) r) (is.1 (suc count) inside keeps) in
        if_at (get_or rules.kept (suc count) false) (switch_kept rules f row count) _ _ keeps (omega (arith, same))

    kept_below : (count lane : ℕ) → count < 17 → 1 ≤ lane → lane ≤ count → IsKeptLane rules.kept lane → switch_kept rules f row count ≤ after lane
    unfolding switch_kept
    kept_below zero lane inside low high keeps = absurd (omega arith)
    kept_below (suc count) lane inside low high keeps =
        elim (cases_lt lane (suc count)) [
          | inl before ↦ if_below (get_or rules.kept (suc count) false) (switch_kept rules f row count) _ (after lane) (kept_below count lane (omega arith) low (omega arith) keeps)
          | inr at ↦
              let e : suc count ≡ lane = omega arith in
              subst (λ (n : ℕ). IsKeptLane rules.kept n → switch_kept rules f row (suc count) ≤ after n) e (kept_at count inside) keeps
        ]

    kept_above : (count : ℕ) → count < 17 → switch_least rules f (rests_of rules all) count ≤ switch_kept rules f row count
    unfolding switch_kept switch_least
    kept_above zero inside = omega arith
    kept_above (suc count) inside =
        if_above (get_or rules.kept (suc count) false) (switch_least rules f (rests_of rules all) count) (switch_kept rules f row count) _ _
        (kept_above count (omega arith))
        (λ keeps. sym (ap (λ (r : Rest). weight_if true (rules.designator + begin_least rules f (suc count) r)) (is.1 (suc count) inside keeps)))

    after_order : (to lane : ℕ) → lane ≤ 15 → Dominates rules.kanji_lane to lane (f ∷ all) → after to ≤ after lane
    unfolding after
    after_order to lane high h =
        let sizes = All-head (λ (facts : Facts). TakesNoMore to lane facts.sizes) f all h.sizes in
        let low : to < 17 = omega (arith, h.last) in
        let begin = least_order rules to lane f (entry rules all to) (entry rules all lane) h.kanji sizes
        (λ mode. onward_order rules to lane all low (omega arith) (later rules.kanji_lane to lane f all h) mode 1) in
        omega (arith, begin)

    no_designator : (lane : ℕ) → LIMIT ≤ rules.designator → LIMIT ≤ after lane
    unfolding after
    no_designator lane h = omega (arith, h)

    pub kept_is : KeepsEnough rules (f ∷ all) → switch_kept rules f row 15 ≡ switch_least rules f (rests_of rules all) 15
    kept_is enough =
        elim enough.1 [
          | inl none ↦
              let least = least_above LIMIT 15 (omega arith) (λ lane low high. no_designator lane none) in
              omega (arith, kept_small 15, kept_above 15 (omega arith), least)
          | inr lanes ↦
              let least = least_above (switch_kept rules f row 15) 15 (kept_small 15) (λ lane low high.
              let w = lanes lane low high in
              let below = kept_below 15 w.0 (omega arith) w.2.from w.2.last w.1 in
              omega (arith, below, after_order w.0 lane high w.2)) in
              omega (arith, kept_above 15 (omega arith), least)
        ]

-- ---- Rows

pub row_kept : (rules : Rules) (f : Facts) (all : List Facts) (old row : List Rest) → KeepsEnough rules (f ∷ all) → IsRowOf rules all old →
    length row ≡ 17 →
    ((lane : ℕ) → lane < 17 → IsKeptLane rules.kept lane →
    get_or row lane no_rest ≡ lane_before rules f (switch_kept rules f old 15) lane (get_or old lane no_rest)) →
    IsRowOf rules (f ∷ all) row
row_kept rules f all old row enough is long made = (
  long,
  λ lane inside keeps.
      made lane inside keeps
      ∙ ap (λ (switched : ℕ). lane_before rules f switched lane (get_or old lane no_rest)) (kept_is rules f all old is enough)
      ∙ ap (λ (rest : Rest). lane_before rules f (switch_least rules f (rests_of rules all) 15) lane rest) (is.1 lane inside keeps)
      ∙ sym (entry_step rules f all lane inside),
)

pub enough_from : (rules : Rules) (all : List Facts) (n : ℕ) → KeepsEnough rules all → KeepsEnough rules (drop n all)
enough_from rules all n h = (
  h.0,
  elim h.1 [
    | inl none ↦ inl none
    | inr lanes ↦
        inr (λ lane low high.
        let w = lanes lane low high in (
          w.0,
          w.1,
          record {
            from = w.2.from;
            last = w.2.last;
            kanji = w.2.kanji;
            sizes = All-drop (λ (facts : Facts). TakesNoMore w.0 lane facts.sizes) n all w.2.sizes;
          },
        ))
  ],
  h.2,
)

-- ---- Lanes that are kept

set_other : (kept : List Bool) (lane to : ℕ) (b : Bool) → to ≢ lane → IsKeptLane kept to → IsKeptLane (set kept lane b) to
set_other kept lane to b differs keeps = grind (arith, common_steps, differs, keeps)

-- A lane is left out that another dominates.
pub left_out : (kept : List Bool) (lane to : ℕ) (all : List Facts) → to ≢ lane → IsKeptLane kept to → Dominates 17 to lane all → AreEnough kept 17 all →
    AreEnough (set kept lane false) 17 all
left_out kept lane to all differs keeps h enough k low high =
    let w = enough k low high in
    elim (cases_eq w.0 lane) [
      | inl same ↦ (
        to,
        set_other kept lane to false differs keeps,
        domination 17 to lane k all h (subst (λ (n : ℕ). Dominates 17 n k all) same w.2),
      )
      | inr other ↦ (w.0, set_other kept lane w.0 false other w.1, w.2)
    ]

-- What is enough for some characters is so for all that these cover.
pub enough_covered : (kept : List Bool) (some all : List Facts) → StandFor some all → AreEnough kept 17 some → AreEnough kept 17 all
enough_covered kept some all covers enough lane low high =
    let w = enough lane low high in (
      w.0,
      w.1,
      record {
        from = w.2.from;
        last = w.2.last;
        kanji = w.2.kanji;
        sizes = covers w.0 lane (omega (arith, w.2.last)) (omega (arith, high)) w.2.sizes;
      },
    )

-- Where Kanji segments are, a lane of theirs is kept too.
pub with_kanji : (kept more : List Bool) (kanji_lane : ℕ) (all : List Facts) → AreEnough kept 17 all →
    ((lane : ℕ) → lane < 17 → IsKeptLane kept lane → IsKeptLane more lane) → (kanji_lane < 17 → IsKeptLane more kanji_lane) → AreEnough more kanji_lane all
with_kanji kept more kanji_lane all enough keeps kanji lane low high =
    elim (cases_eq kanji_lane lane) [
      | inl same ↦ (lane, subst (λ (n : ℕ). IsKeptLane more n) same (kanji (omega (arith, same))), itself kanji_lane lane all low high)
      | inr other ↦
          let w = enough lane low high in (
            w.0,
            keeps w.0 (omega (arith, w.2.last)) w.1,
            record {
              from = w.2.from;
              last = w.2.last;
              kanji = λ e. absurd (other e);
              sizes = w.2.sizes;
            },
          )
    ]

-- UTF-8 dominates the lanes in which it has no more bytes.
pub all_kept : (used : List Bool) (all : List Facts) → length used ≡ 17 →
    ((lane : ℕ) → lane < 17 → get_or used lane false ≡ false → All (λ facts. TakesNoMore 15 lane facts.sizes) all) →
    AreEnough (set (set (set used 0 false) 16 false) 15 true) 17 all
all_kept used all long free lane low high =
    elim (cases_Bool (get_or used lane false)) [
      | inl is ↦ (lane, stays lane low high is, itself 17 lane all low high)
      | inr differs ↦ (
        15,
        utf8,
        record {
          from = omega arith;
          last = omega arith;
          kanji = λ e. absurd (omega (arith, e, high));
          sizes = free lane (omega (arith, high)) differs;
        },
      )
    ]
  where
    utf8 : IsKeptLane (set (set (set used 0 false) 16 false) 15 true) 15
    utf8 = grind (arith, common_steps, long)

    stays : (lane : ℕ) → 1 ≤ lane → lane ≤ 15 → get_or used lane false ≡ true → IsKeptLane (set (set (set used 0 false) 16 false) 15 true) lane
    stays lane low high is =
        elim (cases_eq lane 15) [
          | inl e ↦ subst (λ (n : ℕ). IsKeptLane (set (set (set used 0 false) 16 false) 15 true) n) (sym e) utf8
          | inr differs ↦
              set_other (set (set used 0 false) 16 false) 15 lane true differs
              (set_other (set used 0 false) 16 lane false (λ e. absurd (omega (arith, e, high)))
              (set_other used 0 lane false (λ e. absurd (omega (arith, e, low))) is))
        ]
