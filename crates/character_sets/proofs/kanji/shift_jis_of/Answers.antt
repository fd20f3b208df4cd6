-- The bytes, by the two ranges.
use Rattle.std.proofs.Common.{arith}
use Rattle.character_sets.proofs.KanjiTable.{paired, pair_low, pair_high}
use Rattle.character_sets.proofs.kanji.shift_jis_of.Goals.{then-row-lt31, else-row-lt31}
use Rattle.character_sets.proofs.kanji.shift_jis_of.Goals as goal

pub overflow_cast-result : goal.overflow_cast-result
overflow_cast-result c =
    elim c.if-row-lt31.branch [
      | then-row-lt31 w ↦ omega (arith, (paired c.args.kanji c.requires).0, w.lead-is)
      | else-row-lt31 w ↦ omega (arith, (paired c.args.kanji c.requires).0, w.lead-is)
    ]

pub returns-clause-pair : goal.returns-clause-pair
returns-clause-pair c =
    elim c.if-row-lt31.branch [
      | then-row-lt31 w ↦ (pair_low c.args.kanji c.if-row-lt31.lead c.requires w.if-row-lt31.true w.lead-is).pair
      | else-row-lt31 w ↦ (pair_high c.args.kanji c.if-row-lt31.lead c.requires w.if-row-lt31.false w.lead-is).pair
    ]

pub returns-clause-number : goal.returns-clause-number
returns-clause-number c =
    elim c.if-row-lt31.branch [
      | then-row-lt31 w ↦ (pair_low c.args.kanji c.if-row-lt31.lead c.requires w.if-row-lt31.true w.lead-is).number
      | else-row-lt31 w ↦ (pair_high c.args.kanji c.if-row-lt31.lead c.requires w.if-row-lt31.false w.lead-is).number
    ]
