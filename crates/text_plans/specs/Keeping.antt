-- The lanes that a search looks at: as many as the least parts of a text need. No promise rests
-- on them.
use Rattle.std.specs.Prelude.{◌≡◌, ◌≢◌, ℕ, ◌+◌, ◌≤◌, ◌<◌, ◌⊎◌, Bool, true, false, List, [], ◌∷◌}
use Rattle.std.specs.Prelude.{◌++◌, All, length, get_or, take}
use Rattle.std.specs.Prelude.{zero, suc, min, if◌then◌else◌}
use Rattle.text_plans.specs.declared.facts.Facts.{Facts}
use Rattle.text_plans.specs.declared.row.Rest.{Rest}
use Rattle.text_plans.specs.declared.row.TheConstants.{LIMIT}
use Rattle.text_plans.specs.declared.rules.Rules.{Rules}
use Rattle.text_plans.specs.Search.{begin_least, no_rest, rests_of, weight_if}

-- A lane is looked at.
abbrev pub IsKeptLane : List Bool → ℕ → Type 0
IsKeptLane kept lane = get_or kept lane false ≡ true

-- By its numbers of bytes, a character that has some in a lane has no more in another.
abbrev pub TakesNoMore : ℕ → ℕ → List ℕ → Type 0
TakesNoMore to lane sizes =
    get_or sizes lane 0 ≢ 0 →
    (get_or sizes to 0 ≢ 0) × (get_or sizes to 0 ≤ get_or sizes lane 0)

-- Some characters stand for others: what takes no more by these takes no more by those.
abbrev pub StandFor : List Facts → List Facts → Type 0
StandFor some all =
    (to lane : ℕ) → to < 17 → lane < 17 → All (λ facts. TakesNoMore to lane facts.sizes) some →
    All (λ facts. TakesNoMore to lane facts.sizes) all

-- What can be written after the designator of a lane can be written after that of another, in no
-- more bits.
pub record Dominates (kanji_lane to lane : ℕ) (all : List Facts) : Type 0 where
  pub from : 1 ≤ to
  pub last : to ≤ 15
  pub kanji : kanji_lane ≡ lane → kanji_lane ≡ to
  pub sizes : All (λ facts. TakesNoMore to lane facts.sizes) all

-- For each lane of a designator one is kept that dominates it.
abbrev pub AreEnough : List Bool → ℕ → List Facts → Type 0
AreEnough kept kanji_lane all =
    (lane : ℕ) → 1 ≤ lane → lane ≤ 15 →
    (to : ℕ) × IsKeptLane kept to × Dominates kanji_lane to lane all

-- The lanes from 1 up to a number that are kept.
unfoldable pub kept_up_to : List Bool → ℕ → List ℕ
kept_up_to kept zero = []
kept_up_to kept (suc lane) =
    if get_or kept (suc lane) false then kept_up_to kept lane ++ suc lane ∷ []
    else kept_up_to kept lane

-- The rules list the lanes of designators that they keep.
pub record ListsLanes (rules : Rules) : Type 0 where
  pub within : rules.count ≤ 15
  pub counted : length (kept_up_to rules.kept 15) ≡ rules.count
  pub listed : take rules.count rules.lanes ≡ kept_up_to rules.kept 15

-- The rules list the lanes that they keep: the lane in which a text begins, and enough of the
-- others, of which they need none without designators.
abbrev pub KeepsEnough : Rules → List Facts → Type 0
KeepsEnough rules all =
    IsKeptLane rules.kept rules.start
    × ((LIMIT ≤ rules.designator) ⊎ AreEnough rules.kept rules.kanji_lane all)
    × ListsLanes rules

-- A character begins a segment after a designator: of the lanes 1 to `count` that are kept
-- the least.
unfoldable pub switch_kept : Rules → Facts → List Rest → ℕ → ℕ
switch_kept rules facts row zero = LIMIT
switch_kept rules facts row (suc lane) =
    if get_or rules.kept (suc lane) false
    then min (switch_kept rules facts row lane)
    (weight_if true
    (rules.designator + begin_least rules facts (suc lane) (get_or row (suc lane) no_rest)))
    else switch_kept rules facts row lane

-- What follows before some characters, in the lanes that are kept.
abbrev pub IsRowOf : Rules → List Facts → List Rest → Type 0
IsRowOf rules all row =
    (length row ≡ 17)
    × ((lane : ℕ) → lane < 17 → IsKeptLane rules.kept lane →
    get_or row lane no_rest ≡ get_or (rests_of rules all) lane no_rest)
