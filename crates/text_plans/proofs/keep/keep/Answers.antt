-- The lanes that are kept are enough.
use Rattle.std.proofs.Common.{inl, inr}
use Rattle.std.proofs.lemmas.Bool.{cases_lt}
use Rattle.text_plans.specs.declared.row.TheConstants.{LIMIT}
use Rattle.text_plans.proofs.Kept.{with_kanji}
use Rattle.text_plans.proofs.keep.keep.Goals as goal

pub returns-clause-enough : goal.returns-clause-enough
returns-clause-enough c = (
  c.kept_lanes-kept.ensures.start,
  elim (cases_lt c.args.rules.designator LIMIT) [
    | inl small ↦
        inr (with_kanji c.args.needed.now c.kept_lanes-kept.result c.args.rules.kanji_lane c.args.all.now c.requires.needed
        (c.kept_lanes-kept.ensures.enough small) (c.kept_lanes-kept.ensures.kanji small))
    | inr none ↦ inl none
  ],
  record {
    within = c.listed-count.ensures.within;
    counted = c.listed-count.ensures.counted;
    listed = c.listed-count.ensures.listed;
  },
)
