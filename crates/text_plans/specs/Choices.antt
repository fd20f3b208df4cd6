-- How a character is written, and what it weighs with what follows it. No promise rests on it.
use Rattle.std.specs.Prelude.{◌≡◌, ℕ, ◌+◌, ◌≤◌, Bool, true, ◌||◌, List, [], ◌∷◌, ◌++◌, length}
use Rattle.std.specs.Prelude.{get_or, Option, Some, None}
use Rattle.qrcode_base.specs.declared.types.Mode.{Mode}
use Rattle.qrcode_base.specs.declared.types.Mode.TheVariants.{Numeric, Alphanumeric, Byte, Kanji}
use Rattle.character_sets.specs.Reading.{Part, designator, is_shift_jis, read_segment}
use Rattle.text_plans.specs.Lanes.{SuitsMixed, force_of}
use Rattle.text_plans.specs.Plan.{Written, all_parts}
use Rattle.text_plans.specs.declared.facts.Facts.{Facts}
use Rattle.text_plans.specs.declared.row.Rest.{Rest}
use Rattle.text_plans.specs.declared.row.TheConstants.{LIMIT}
use Rattle.text_plans.specs.declared.rules.Rules.{Rules}
use Rattle.text_plans.specs.declared.walk.Choice.{Choice}
use Rattle.text_plans.specs.declared.walk.Choice.TheVariants.{GoOn, Begin, Change}
use Rattle.text_plans.specs.Keeping.{IsKeptLane, switch_kept}
use Rattle.text_plans.specs.Search.{begin_in, go_on, can_write, lane_before, no_rest, onward}
use Rattle.text_plans.specs.Search.{weight_if}

-- The least weight of what follows, by the mode and the number of bytes of the open segment.
abbrev pub open_value : Rest → Option Mode → ℕ → ℕ
open_value rest None count = rest.fresh
open_value rest (Some mode) count = onward rest mode count

-- What a character weighs that is written in the open segment.
abbrev pub open_weight : Rules → Facts → ℕ → Rest → Option Mode → ℕ → ℕ
open_weight rules facts lane rest None count = LIMIT
open_weight rules facts lane rest (Some mode) count = go_on rules facts lane rest mode count

-- What a character weighs with what follows it, by the choice.
abbrev pub choice_weight : Rules → Facts → List Rest → ℕ → Option Mode → ℕ → Choice → ℕ
choice_weight rules facts row lane opened count GoOn =
    open_weight rules facts lane (get_or row lane no_rest) opened count
choice_weight rules facts row lane opened count (Begin mode) =
    begin_in rules facts lane (get_or row lane no_rest) mode
choice_weight rules facts row lane opened count (Change to mode) =
    weight_if true (rules.designator + begin_in rules facts to (get_or row to no_rest) mode)

-- A plan has the bytes of one character more in its open segment, by the facts of the character.
pub record AddsBytes (lane : ℕ) (mode : Mode) (c size : ℕ) (old new : Written) : Type 0 where
  pub bytes : List ℕ
  pub new_is : new ≡ record old { bytes = old.bytes ++ bytes }
  pub size_is : length bytes ≡ size
  pub read : (plain mixed : Bool) → SuitsMixed mixed lane →
      (mode ≡ Kanji → (plain || is_shift_jis (force_of lane)) ≡ true) →
      read_segment plain mixed (force_of lane) mode bytes ≡ Some (c ∷ [])

-- The bytes of a character in a mode.
abbrev pub char_size : Facts → ℕ → Mode → ℕ
char_size facts lane Numeric = 1
char_size facts lane Alphanumeric = 1
char_size facts lane Byte = get_or facts.sizes lane 0
char_size facts lane Kanji = 2

-- A choice that can be made in a lane, by the mode of the open segment.
abbrev pub CanBe : Rules → Facts → ℕ → Option Mode → Choice → Type 0
CanBe rules facts lane opened GoOn =
    (mode : Mode) × (opened ≡ Some mode) × (can_write rules facts lane mode ≡ true)
CanBe rules facts lane opened (Begin mode) = can_write rules facts lane mode ≡ true
CanBe rules facts lane opened (Change to mode) =
    (1 ≤ to) × (to ≤ 15) × (can_write rules facts to mode ≡ true) × IsKeptLane rules.kept to

-- The lane after a choice.
abbrev pub lane_after : ℕ → Choice → ℕ
lane_after lane GoOn = lane
lane_after lane (Begin mode) = lane
lane_after lane (Change to mode) = to

-- The plan with a new segment of a mode.
abbrev pub segment_opened : List Part → Mode → Written
segment_opened parts mode = record { parts = parts; mode = Some mode; bytes = [] }

-- What a choice makes of a plan with a character.
abbrev pub Makes : Facts → ℕ → ℕ → Choice → Written → Written → Type 0
Makes facts lane c GoOn old new =
    (mode : Mode) → old.mode ≡ Some mode → AddsBytes lane mode c (char_size facts lane mode) old new
Makes facts lane c (Begin mode) old new =
    AddsBytes lane mode c (char_size facts lane mode) (segment_opened (all_parts old) mode) new
Makes facts lane c (Change to mode) old new =
    (number : ℕ) → force_of to ≡ Some number →
    AddsBytes to mode c (char_size facts to mode)
    (segment_opened (all_parts old ++ designator number ∷ []) mode) new

-- What follows in a lane from a character on, by what follows it in all lanes.
abbrev pub step_value : Rules → Facts → List Rest → ℕ → Written → ℕ
step_value rules facts row lane written =
    open_value
    (lane_before rules facts (switch_kept rules facts row 15) lane (get_or row lane no_rest))
    written.mode (length written.bytes)

-- A character is written by a choice that weighs no more than what follows from there on.
pub record IsCharStep (rules : Rules) (facts : Facts) (row : List Rest) (lane c : ℕ)
    (old new : Written)
    (after : ℕ) : Type 0 where
  pub choice : Choice
  pub after_is : after ≡ lane_after lane choice
  pub possible : CanBe rules facts lane old.mode choice
  pub weight : choice_weight rules facts row lane old.mode (length old.bytes) choice
      ≡ step_value rules facts row lane old
  pub makes : Makes facts lane c choice old new
