-- Where a plan begins: in the lane of the rules, or in that of a designator in front of all of it.
-- No promise rests on it.
use Rattle.std.specs.Prelude.{◌≡◌, ℕ, ◌+◌, ◌≤◌, ◌<◌, ◌⊎◌, List, [], ◌∷◌, ◌++◌, get_or}
use Rattle.std.specs.Prelude.{Option, None, Some}
use Rattle.qrcode_base.specs.declared.types.Version.{Version}
use Rattle.character_sets.specs.Reading.{Part, designator}
use Rattle.text_plans.specs.Keeping.{IsKeptLane}
use Rattle.text_plans.specs.Lanes.{force_of}
use Rattle.text_plans.specs.Search.{no_rest, rests_of, switch_least}
use Rattle.text_plans.specs.Tables.{first_weight}
use Rattle.text_plans.specs.Ways.{weight_of}
use Rattle.text_plans.specs.declared.facts.Facts.{Facts}
use Rattle.text_plans.specs.declared.row.TheConstants.{LIMIT}
use Rattle.text_plans.specs.declared.rules.Manner.{Manner}
use Rattle.text_plans.specs.declared.rules.Manner.TheVariants.{Ascii, Paired, Designated}
use Rattle.text_plans.specs.declared.rules.Rules.{Rules}

-- The designator in front of a plan that begins in a lane, if the lane has one.
abbrev pub front_in : Option ℕ → List Part
front_in None = []
front_in (Some number) = designator number ∷ []

abbrev pub front_of : ℕ → List Part
front_of lane = front_in (force_of lane)

-- Parts begin with others.
abbrev pub BeginWith : List Part → List Part → Type 0
BeginWith front parts = (rest : List Part) × (parts ≡ front ++ rest)

-- A plan may begin in a lane: that of the rules, or that of a designator.
abbrev pub IsStart : Rules → ℕ → Type 0
IsStart rules start =
    IsKeptLane rules.kept start
    × ((start ≡ rules.start) ⊎ ((1 ≤ start) × (start ≤ 15) × (rules.designator < LIMIT)))

-- The least weight of a text that begins in a lane, with the designator of the lane.
abbrev pub weight_from : Version → Rules → List Facts → ℕ → ℕ
weight_from version rules all start =
    weight_of version (front_of start) + (get_or (rests_of rules all) start no_rest).fresh

-- The least weight of a text in a manner.
abbrev pub weight_as_in : Manner → Rules → List Facts → ℕ
weight_as_in Ascii rules all = first_weight rules all
weight_as_in Paired rules all = first_weight rules all
weight_as_in Designated rules [] = first_weight rules []
weight_as_in Designated rules (facts ∷ all) = switch_least rules facts (rests_of rules all) 15

-- If the manner asks for a designator, the lane has one, or there is nothing to write.
abbrev pub HasFront : Manner → ℕ → ℕ → Type 0
HasFront Ascii start weight = Unit {0}
HasFront Paired start weight = Unit {0}
HasFront Designated start weight = ((1 ≤ start) × (start ≤ 15)) ⊎ (weight ≡ 0)

-- A plan of a manner begins in a lane and has a weight.
pub record IsStartIn (manner : Manner) (rules : Rules) (all : List Facts) (start weight : ℕ)
    : Type 0 where
  pub may : IsStart rules start
  pub inside : start < 17
  pub from : weight ≡ weight_from rules.version rules all start
  pub front : HasFront manner start weight
