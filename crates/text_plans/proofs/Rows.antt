-- What follows in a lane, before some characters.
use Rattle.std.proofs.Common.{◌≡◌, ℕ, zero, suc, ◌+◌, ◌≤◌, ◌<◌, Bool, true, false, List, [], ◌∷◌, length, get_or, drop, ◌-◌, drop-cons, min, refl, ap, sym, ◌∙◌, arith}
use Rattle.std.specs.Prelude.{map}
use Rattle.std.specs.List.{range_with_len}
use Rattle.std.proofs.lemmas.Grind.{common_steps}
use Rattle.std.proofs.lemmas.List.FromFn.{get_or-map-range_with_len}
use Rattle.qrcode_base.specs.declared.types.Mode.{Mode}
use Rattle.qrcode_base.specs.declared.types.Mode.TheVariants.{Numeric, Alphanumeric, Byte, Kanji}
use Rattle.text_plans.specs.declared.facts.Facts.{Facts}
use Rattle.text_plans.specs.declared.row.Rest.{Rest}
use Rattle.text_plans.specs.declared.row.TheConstants.{LIMIT}
use Rattle.text_plans.specs.declared.rules.Rules.{Rules}
use Rattle.text_plans.specs.Search.{weight_if, onward, go_on, begin_in, begin_least, lane_before}
use Rattle.text_plans.specs.Search.{no_rest, switch_least, row_before, rests_of}
use Rattle.text_plans.proofs.Weights.{onward_is}

-- What follows before some characters in a lane.
abbrev pub entry : Rules → List Facts → ℕ → Rest
entry rules all lane = get_or (rests_of rules all) lane no_rest

pub entry_end : (rules : Rules) (lane : ℕ) → lane < 17 → entry rules [] lane ≡ no_rest
unfolding rests_of
entry_end rules lane h = get_or-map-range_with_len (λ (k : ℕ). no_rest) 0 17 lane lane no_rest h (omega arith)

pub entry_step : (rules : Rules) (facts : Facts) (all : List Facts) (lane : ℕ) → lane < 17 →
    entry rules (facts ∷ all) lane
    ≡ lane_before rules facts (switch_least rules facts (rests_of rules all) 15) lane (entry rules all lane)
unfolding rests_of row_before
entry_step rules facts all lane h =
    get_or-map-range_with_len
    (λ (k : ℕ). lane_before rules facts (switch_least rules facts (rests_of rules all) 15) k (get_or (rests_of rules all) k no_rest))
    0 17 lane lane no_rest h (omega arith)

-- ---- A weight up to the limit

pub weight_true : (allowed : Bool) (weight : ℕ) → allowed ≡ true → weight_if allowed weight ≤ weight
weight_true true weight h = omega arith
weight_true false weight h = absurd (cc)

-- ---- A new part

pub fresh_is : (rules : Rules) (facts : Facts) (switched lane : ℕ) (rest : Rest) →
    (lane_before rules facts switched lane rest).fresh ≡ min (begin_least rules facts lane rest) switched
unfolding lane_before
fresh_is rules facts switched lane rest = refl

pub begin_below : (rules : Rules) (facts : Facts) (lane : ℕ) (rest : Rest) (mode : Mode) →
    begin_least rules facts lane rest ≤ begin_in rules facts lane rest mode
unfolding begin_least
begin_below rules facts lane rest Numeric = omega arith
begin_below rules facts lane rest Alphanumeric = omega arith
begin_below rules facts lane rest Byte = omega arith
begin_below rules facts lane rest Kanji = omega arith

-- A segment that begins weighs no less.
pub fresh_begin : (rules : Rules) (facts : Facts) (all : List Facts) (lane : ℕ) (mode : Mode) → lane < 17 →
    (entry rules (facts ∷ all) lane).fresh ≤ begin_in rules facts lane (entry rules all lane) mode
fresh_begin rules facts all lane mode h =
    rw (entry_step rules facts all lane h)
    (omega (
      arith,
      fresh_is rules facts (switch_least rules facts (rests_of rules all) 15) lane (entry rules all lane),
      begin_below rules facts lane (entry rules all lane) mode,
    ))

pub switch_below : (rules : Rules) (facts : Facts) (row : List Rest) (count lane : ℕ) → 1 ≤ lane → lane ≤ count →
    switch_least rules facts row count ≤ weight_if true (rules.designator + begin_least rules facts lane (get_or row lane no_rest))
unfolding switch_least
switch_below rules facts row zero lane h k = absurd (omega arith)
switch_below rules facts row (suc count) lane h k = grind (arith, switch_below rules facts row count lane h)

-- So does a designator with what follows it.
pub fresh_switch : (rules : Rules) (facts : Facts) (all : List Facts) (lane to : ℕ) → lane < 17 → 1 ≤ to → to ≤ 15 →
    (entry rules (facts ∷ all) lane).fresh ≤ rules.designator + (entry rules (facts ∷ all) to).fresh
fresh_switch rules facts all lane to h low high =
    let within : to < 17 = omega arith in
    rw (entry_step rules facts all lane h)
    (rw (entry_step rules facts all to within)
    (omega (
      arith,
      fresh_is rules facts (switch_least rules facts (rests_of rules all) 15) lane (entry rules all lane),
      fresh_is rules facts (switch_least rules facts (rests_of rules all) 15) to (entry rules all to),
      switch_below rules facts (rests_of rules all) 15 to low high,
    )))

-- The least designator with what follows it weighs no more.
pub switch_first : (rules : Rules) (facts : Facts) (all : List Facts) (to : ℕ) → 1 ≤ to → to ≤ 15 →
    switch_least rules facts (rests_of rules all) 15 ≤ rules.designator + (entry rules (facts ∷ all) to).fresh
switch_first rules facts all to low high =
    let within : to < 17 = omega arith in
    rw (entry_step rules facts all to within)
    (omega (
      arith,
      fresh_is rules facts (switch_least rules facts (rests_of rules all) 15) to (entry rules all to),
      switch_below rules facts (rests_of rules all) 15 to low high,
    ))

-- Without designators none is the least.
pub switch_none : (rules : Rules) (facts : Facts) (row : List Rest) (count : ℕ) → LIMIT ≤ rules.designator → switch_least rules facts row count ≡ LIMIT
unfolding switch_least
switch_none rules facts row zero h = refl
switch_none rules facts row (suc count) h = omega (arith, h, switch_none rules facts row count h)

pub from_end : (all : List Facts) (n k : ℕ) (d : Facts) → n ≡ length all → k < n →
    drop (n - (k + 1)) all ≡ get_or all (n - 1 - k) d ∷ drop (n - k) all
from_end all n k d long inside =
    let place : n - (k + 1) ≡ n - 1 - k = omega arith in
    let next : suc (n - 1 - k) ≡ n - k = omega arith in
    let within : n - 1 - k < length all = omega arith in
    rw place (drop-cons all (n - 1 - k) d within ∙ ap (λ (m : ℕ). get_or all (n - 1 - k) d ∷ drop m all) next)

-- Without designators each lane goes by what it has itself.
pub lane_alone : (rules : Rules) (all : List Facts) (n k : ℕ) (d : Facts) (lane : ℕ) (rest : Rest) → n ≡ length all → k < n → lane < 17 → LIMIT ≤ rules.designator →
    rest ≡ entry rules (drop (n - k) all) lane →
    lane_before rules (get_or all (n - 1 - k) d) LIMIT lane rest ≡ entry rules (drop (n - (k + 1)) all) lane
lane_alone rules all n k d lane rest long inside within none is =
    let f = get_or all (n - 1 - k) d in
    ap (λ (r : Rest). lane_before rules f LIMIT lane r) is
    ∙ ap (λ (switched : ℕ). lane_before rules f switched lane (entry rules (drop (n - k) all) lane))
    (sym (switch_none rules f (rests_of rules (drop (n - k) all)) 15 none))
    ∙ sym (entry_step rules f (drop (n - k) all) lane within)
    ∙ ap (λ (x : List Facts). entry rules x lane) (sym (from_end all n k d long inside))

-- ---- An open segment

pub onward_fresh : (rules : Rules) (all : List Facts) (lane : ℕ) (mode : Mode) (count : ℕ) → lane < 17 →
    onward (entry rules all lane) mode count ≤ (entry rules all lane).fresh
onward_fresh rules [] lane Numeric count h = rw (entry_end rules lane h) (grind (arith, common_steps))
onward_fresh rules [] lane Alphanumeric count h = rw (entry_end rules lane h) (grind (arith, common_steps))
onward_fresh rules [] lane Byte count h = rw (entry_end rules lane h) (omega arith)
onward_fresh rules [] lane Kanji count h = rw (entry_end rules lane h) (omega arith)
onward_fresh rules (facts ∷ all) lane mode count h =
    rw (entry_step rules facts all lane h)
    (omega (arith, onward_is rules facts lane (switch_least rules facts (rests_of rules all) 15) (entry rules all lane) mode count))

pub onward_go : (rules : Rules) (facts : Facts) (all : List Facts) (lane : ℕ) (mode : Mode) (count : ℕ) → lane < 17 →
    onward (entry rules (facts ∷ all) lane) mode count ≤ go_on rules facts lane (entry rules all lane) mode count
onward_go rules facts all lane mode count h =
    rw (entry_step rules facts all lane h)
    (omega (arith, onward_is rules facts lane (switch_least rules facts (rests_of rules all) 15) (entry rules all lane) mode count))

-- ---- A table, from the end of a text on

pub row_length : (rules : Rules) (all : List Facts) → length (rests_of rules all) ≡ 17
unfolding rests_of row_before
row_length rules [] = refl
row_length rules (facts ∷ all) = refl

pub row_first : (rules : Rules) (all : List Facts) (n : ℕ) → n ≡ length all →
    map (λ (lane : ℕ). no_rest) (range_with_len 0 17) ≡ rests_of rules (drop (n - 0) all)
unfolding rests_of
row_first rules all n long =
    let e : drop (n - 0) all ≡ [] = grind (arith, common_steps) in rw e refl
