-- What follows is the least of going on, a new segment, and a designator.
use Rattle.std.proofs.Common.{◌≡◌, ℕ, ◌≤◌, ◌<◌, Bool, true, false, min, refl, arith, Option, Some, None}
use Rattle.qrcode_base.specs.declared.types.Mode.{Mode}
use Rattle.qrcode_base.specs.declared.types.Mode.TheVariants.{Kanji}
use Rattle.text_plans.specs.declared.facts.Facts.{Facts}
use Rattle.text_plans.specs.declared.row.Rest.{Rest}
use Rattle.text_plans.specs.declared.row.TheConstants.{LIMIT}
use Rattle.text_plans.specs.declared.rules.Rules.{Rules}
use Rattle.text_plans.specs.Choices.{open_value, open_weight}
use Rattle.text_plans.specs.Search.{begin_in, begin_least, lane_before, weight_if, can_write}
use Rattle.text_plans.proofs.Weights.{onward_is}

weight_small : (allowed : Bool) (weight : ℕ) → weight_if allowed weight ≤ LIMIT
weight_small true weight = omega arith
weight_small false weight = omega arith

pub begin_small : (rules : Rules) (facts : Facts) (lane : ℕ) (rest : Rest) → begin_least rules facts lane rest ≤ LIMIT
unfolding begin_least
begin_small rules facts lane rest =
    let small : begin_in rules facts lane rest Kanji ≤ LIMIT = weight_small (can_write rules facts lane Kanji) _ in omega arith

fresh_is : (rules : Rules) (facts : Facts) (switched lane : ℕ) (rest : Rest) →
    (lane_before rules facts switched lane rest).fresh ≡ min (begin_least rules facts lane rest) switched
unfolding lane_before
fresh_is rules facts switched lane rest = refl

pub value_is : (rules : Rules) (facts : Facts) (switched lane : ℕ) (rest : Rest) (opened : Option Mode) (count : ℕ) →
    open_value (lane_before rules facts switched lane rest) opened count
    ≡ min (min (begin_least rules facts lane rest) switched) (open_weight rules facts lane rest opened count)
value_is rules facts switched lane rest None count =
    omega (arith, fresh_is rules facts switched lane rest, begin_small rules facts lane rest)
value_is rules facts switched lane rest (Some mode) count =
    omega (arith, onward_is rules facts lane switched rest mode count, fresh_is rules facts switched lane rest)

-- ---- What can be chosen

pub below_limit : (allowed : Bool) (weight : ℕ) → weight_if allowed weight < LIMIT → (allowed ≡ true) × (weight_if allowed weight ≡ weight)
below_limit true weight h = (refl, omega arith)
below_limit false weight h = absurd (omega arith)

pub go_possible : (rules : Rules) (facts : Facts) (lane : ℕ) (rest : Rest) (opened : Option Mode) (count : ℕ) →
    open_weight rules facts lane rest opened count < LIMIT →
    (mode : Mode) × (opened ≡ Some mode) × (can_write rules facts lane mode ≡ true)
go_possible rules facts lane rest None count h = absurd (omega arith)
go_possible rules facts lane rest (Some mode) count h = (mode, refl, (below_limit (can_write rules facts lane mode) _ h).0)

pub begin_possible : (rules : Rules) (facts : Facts) (lane : ℕ) (rest : Rest) (mode : Mode) →
    begin_in rules facts lane rest mode < LIMIT → can_write rules facts lane mode ≡ true
begin_possible rules facts lane rest mode h = (below_limit (can_write rules facts lane mode) _ h).0
