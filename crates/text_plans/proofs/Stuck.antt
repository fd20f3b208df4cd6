-- Without designators a text has no weight below the limit if a character cannot be written.
use Rattle.std.proofs.Common.{◌≡◌, ◌∙◌, ℕ, zero, suc, ◌+◌, ◌≤◌, ◌<◌, Bool, true, false, List, [], ◌∷◌, length, get_or, ap, sym, subst, arith}
use Rattle.qrcode_base.specs.declared.types.Mode.{Mode}
use Rattle.qrcode_base.specs.declared.types.Mode.TheVariants.{Numeric, Alphanumeric, Byte, Kanji}
use Rattle.text_plans.specs.declared.facts.Facts.{Facts}
use Rattle.text_plans.specs.declared.row.Rest.{Rest}
use Rattle.text_plans.specs.declared.row.TheConstants.{LIMIT}
use Rattle.text_plans.specs.declared.rules.Rules.{Rules}
use Rattle.text_plans.specs.Search.{IsUnwritable, begin_in, begin_least, can_write, go_on, lane_before, onward, rests_of, weight_if}
use Rattle.text_plans.proofs.Rows.{entry, entry_step, fresh_is, switch_none}
use Rattle.text_plans.proofs.Weights.{onward_is}

weight_off : (b : Bool) (w : ℕ) → b ≡ false → LIMIT ≤ weight_if b w
weight_off true w h = absurd (cc)
weight_off false w h = omega arith

weight_full : (b : Bool) (w : ℕ) → LIMIT ≤ w → LIMIT ≤ weight_if b w
weight_full true w h = omega (arith, h)
weight_full false w h = omega arith

-- What follows weighs as much as the limit.
abbrev IsFull : Rest → Type 0
IsFull rest = (LIMIT ≤ rest.fresh) × ((mode : Mode) (count : ℕ) → LIMIT ≤ onward rest mode count)

module _ (rules : Rules) (f : Facts) (lane : ℕ) (rest : Rest) where
  begin_full : ((mode : Mode) → LIMIT ≤ begin_in rules f lane rest mode) → LIMIT ≤ begin_least rules f lane rest
  unfolding begin_least
  begin_full h = omega (arith, h Numeric, h Alphanumeric, h Byte, h Kanji)

  full_before : ((mode : Mode) → LIMIT ≤ begin_in rules f lane rest mode) → ((mode : Mode) (count : ℕ) → LIMIT ≤ go_on rules f lane rest mode count) →
      IsFull (lane_before rules f LIMIT lane rest)
  full_before begins goes =
      let fresh : LIMIT ≤ (lane_before rules f LIMIT lane rest).fresh = omega (arith, fresh_is rules f LIMIT lane rest, begin_full begins) in (
        fresh,
        λ mode count. let go = goes mode count in omega (arith, onward_is rules f lane LIMIT rest mode count, fresh, go),
      )

  stuck_here : IsUnwritable rules lane f → IsFull (lane_before rules f LIMIT lane rest)
  stuck_here h = full_before (λ mode. weight_off (can_write rules f lane mode) _ (h mode)) (λ mode count. weight_off (can_write rules f lane mode) _ (h mode))

  stuck_later : IsFull rest → IsFull (lane_before rules f LIMIT lane rest)
  stuck_later h =
      full_before (λ mode. let on = h.1 mode 1 in weight_full (can_write rules f lane mode) _ (omega (arith, on)))
      (λ mode count. let on = h.1 mode (count + 1) in weight_full (can_write rules f lane mode) _ (omega (arith, on)))

alone : (rules : Rules) (f : Facts) (all : List Facts) (lane : ℕ) → lane < 17 → LIMIT ≤ rules.designator →
    entry rules (f ∷ all) lane ≡ lane_before rules f LIMIT lane (entry rules all lane)
alone rules f all lane inside none =
    entry_step rules f all lane inside
    ∙ ap (λ (switched : ℕ). lane_before rules f switched lane (entry rules all lane)) (switch_none rules f (rests_of rules all) 15 none)

stuck : (rules : Rules) (all : List Facts) (lane k : ℕ) → lane < 17 → LIMIT ≤ rules.designator → k < length all →
    ((d : Facts) → IsUnwritable rules lane (get_or all k d)) → IsFull (entry rules all lane)
stuck rules [] lane k inside none below h = absurd (omega (arith, below))
stuck rules (f ∷ all) lane zero inside none below h =
    subst IsFull (sym (alone rules f all lane inside none)) (stuck_here rules f lane (entry rules all lane) (h f))
stuck rules (f ∷ all) lane (suc k) inside none below h =
    subst IsFull (sym (alone rules f all lane inside none))
    (stuck_later rules f lane (entry rules all lane) (stuck rules all lane k inside none (omega (arith, below)) h))

up_to_limit : (rules : Rules) (all : List Facts) (lane k : ℕ) → lane < 17 → LIMIT ≤ rules.designator → k < length all → (entry rules all lane).fresh ≤ LIMIT
up_to_limit rules [] lane k inside none below = absurd (omega (arith, below))
up_to_limit rules (f ∷ all) lane k inside none below =
    omega (arith, ap (λ (rest : Rest). rest.fresh) (alone rules f all lane inside none), fresh_is rules f LIMIT lane (entry rules all lane))

pub at_limit : (rules : Rules) (all : List Facts) (lane k : ℕ) → lane < 17 → LIMIT ≤ rules.designator → k < length all →
    ((d : Facts) → IsUnwritable rules lane (get_or all k d)) → LIMIT ≡ (entry rules all lane).fresh
at_limit rules all lane k inside none below h =
    let full = (stuck rules all lane k inside none below h).0 in omega (arith, full, up_to_limit rules all lane k inside none below)
