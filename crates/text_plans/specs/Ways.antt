-- The ways in which a symbol may have a text, what each of them may use, and what it weighs. No
-- promise rests on them.
use Rattle.std.specs.Prelude.{◌≡◌, ℕ, ◌+◌, ◌*◌, ◌<◌, Bool, true, false, ◌||◌, List, length, None}
use Rattle.qrcode_base.specs.Modes.{HasMode, count_width, indicator_width}
use Rattle.qrcode_base.specs.declared.types.Mode.{Mode}
use Rattle.qrcode_base.specs.declared.types.Version.{Version}
use Rattle.character_sets.specs.Reading.{Part, designator, is_shift_jis}
use Rattle.text_plans.specs.Costs.{HasPart, bits_of_parts}
use Rattle.text_plans.specs.Lanes.{SuitsMixed, force_of}
use Rattle.text_plans.specs.Search.{header_weight}
use Rattle.text_plans.specs.declared.row.TheConstants.{BIT, LIMIT}
use Rattle.text_plans.specs.declared.rules.Rules.{Rules}
use Rattle.text_plans.specs.declared.rules.Way.{Way}
use Rattle.text_plans.specs.declared.rules.Way.TheVariants.{Plain, Unmixed, Mixed, Bare}

-- The symbol has no designator.
abbrev pub plain_of : Way → Bool
plain_of Plain = true
plain_of Unmixed = false
plain_of Mixed = false
plain_of Bare = true

-- The symbol may have Kanji segments.
abbrev pub mixed_of : Way → Bool
mixed_of Plain = true
mixed_of Unmixed = false
mixed_of Mixed = true
mixed_of Bare = false

-- The weight of parts: the bits, then the parts.
abbrev pub weight_of : Version → List Part → ℕ
weight_of version parts = BIT * bits_of_parts version parts + length parts

-- The rules have the headers of the version.
abbrev pub HasHeaders : Version → Rules → Type 0
HasHeaders version rules =
    (mode : Mode) → HasMode version mode →
    header_weight rules mode ≡ BIT * (indicator_width version + count_width version mode) + 1

-- The lane in which a text begins, and the one in which Kanji segments are: they are read there,
-- and nowhere else.
pub record AreLanes (plain mixed : Bool) (start kanji_lane : ℕ) : Type 0 where
  pub kanji : (lane : ℕ) → lane < 17 → kanji_lane ≡ lane →
      ((plain || is_shift_jis (force_of lane)) ≡ true) × (mixed ≡ true)
  pub kanji_plain : plain ≡ true → mixed ≡ true → kanji_lane ≡ start
  pub kanji_mixed : plain ≡ false → mixed ≡ true → kanji_lane ≡ 14
  pub inside : start < 17
  pub suits : SuitsMixed mixed start
  pub no_force : force_of start ≡ None

-- Rules of a version for a way: they have no other modes and designators (`modes`, `designators`),
-- and all of those (`headers`, `designator_is`).
pub record AreRules (version : Version) (plain mixed : Bool) (rules : Rules) : Type 0 where
  pub headers : HasHeaders version rules
  pub modes : (mode : Mode) → header_weight rules mode < LIMIT → HasMode version mode
  pub designators : rules.designator < LIMIT → (rules.designator ≡ BIT * 12 + 1)
      × ((number : ℕ) → HasPart version (designator number)) × (plain ≡ false)
  pub designator_is : (number : ℕ) → plain ≡ false → HasPart version (designator number) →
      rules.designator ≡ BIT * 12 + 1
  pub lanes : AreLanes plain mixed rules.start rules.kanji_lane

-- The rules are those of their version and way.
abbrev pub AreRulesOf : Rules → Type 0
AreRulesOf rules = AreRules rules.version (plain_of rules.way) (mixed_of rules.way) rules
