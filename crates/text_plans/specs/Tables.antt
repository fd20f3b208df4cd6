-- What follows each character of a text, and plans of the least weight. No promise rests on them.
use Rattle.std.specs.Prelude.{◌≡◌, ℕ, ◌+◌, ◌-◌, ◌≤◌, Bool, true, List, [], length, get_or, drop}
use Rattle.std.specs.Prelude.{All, None, Some}
use Rattle.qrcode_base.specs.declared.types.Version.{Version}
use Rattle.character_sets.specs.Reading.{Part, has_kanji, has_no_designator, read_parts}
use Rattle.text_plans.specs.Costs.{AreTextParts, HasPart}
use Rattle.text_plans.specs.Keeping.{IsRowOf}
use Rattle.text_plans.specs.Lanes.{AreAllFacts}
use Rattle.text_plans.specs.Search.{no_rest, rests_of}
use Rattle.text_plans.specs.Ways.{mixed_of, plain_of, weight_of}
use Rattle.text_plans.specs.declared.facts.Facts.{Facts}
use Rattle.text_plans.specs.declared.row.Rest.{Rest}
use Rattle.text_plans.specs.declared.rules.Rules.{Rules}

-- The least weight of a text.
abbrev pub first_weight : Rules → List Facts → ℕ
first_weight rules all = (get_or (rests_of rules all) rules.start no_rest).fresh

-- No parts of a version that are read as a text weigh less than it does by the rules.
abbrev pub AreLightest : Version → Rules → List Facts → Type 0
AreLightest version rules all =
    (text : List ℕ) (others : List Part) → AreAllFacts text all →
    AreTextParts version text others → first_weight rules all ≤ weight_of version others

-- The rows of what follows the last characters of a text, in the lanes that are kept: none, the
-- last, the last two, and so on.
abbrev pub AreRowsOf : Rules → List Facts → List (List Rest) → Type 0
AreRowsOf rules all rows =
    (length rows ≡ length all + 1)
    × ((k : ℕ) → k ≤ length all → IsRowOf rules (drop (length all - k) all) (get_or rows k []))

-- Parts that are read as the text in a way, and weigh so much.
pub record IsWeighed (version : Version) (plain mixed : Bool) (text : List ℕ) (weight : ℕ)
    (parts : List Part) : Type 0 where
  pub read : read_parts plain mixed None parts ≡ Some text
  pub had : All (HasPart version) parts
  pub plain_is : plain ≡ true → has_no_designator parts ≡ true
  pub mixed_is : has_kanji parts ≡ true → mixed ≡ true
  pub weight_is : weight_of version parts ≡ weight

-- The same in the version and way of the rules.
abbrev pub IsPlanOf : Rules → List ℕ → ℕ → List Part → Type 0
IsPlanOf rules text weight parts =
    IsWeighed rules.version (plain_of rules.way) (mixed_of rules.way) text weight parts
