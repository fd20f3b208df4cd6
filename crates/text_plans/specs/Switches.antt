-- The designator that a search chooses. No promise rests on it.
use Rattle.std.specs.Prelude.{◌≡◌, ◌+◌, ◌≤◌, List, get_or, true}
use Rattle.text_plans.specs.declared.facts.Facts.{Facts}
use Rattle.text_plans.specs.declared.row.Rest.{Rest}
use Rattle.text_plans.specs.declared.row.Switch.{Switch}
use Rattle.text_plans.specs.declared.rules.Rules.{Rules}
use Rattle.text_plans.specs.Keeping.{IsKeptLane}
use Rattle.text_plans.specs.Search.{begin_in, no_rest, weight_if}

-- The weight is that of the designator of a lane and of a segment of the mode after it.
pub record IsSwitch (rules : Rules) (facts : Facts) (row : List Rest) (found : Switch)
    : Type 0 where
  pub from : 1 ≤ found.lane
  pub to : found.lane ≤ 15
  pub kept : IsKeptLane rules.kept found.lane
  pub weight : found.weight ≡ weight_if true (rules.designator
      + begin_in rules facts found.lane (get_or row found.lane no_rest) found.mode)
