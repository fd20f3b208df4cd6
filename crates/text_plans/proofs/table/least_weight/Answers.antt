-- Each row is the one before another character.
use Rattle.std.proofs.Common.{length, refl, ap}
use Rattle.text_plans.specs.declared.row.Rest.{Rest}
use Rattle.text_plans.proofs.Ends.{kept_last, kept_more, whole_row}
use Rattle.text_plans.proofs.Rows.{row_first}
use Rattle.text_plans.proofs.Stuck.{at_limit}
use Rattle.text_plans.proofs.table.least_weight.Goals as goal

pub returns-then-has_unwritable : goal.returns-then-has_unwritable
returns-then-has_unwritable c =
    let w = c.has_unwritable.ensures c.if-has_unwritable.true in
    at_limit c.args.rules.now c.args.all.now c.args.rules.now.start w.0 c.requires.start c.if-rules-ge-LIMIT.true w.1 w.2

pub loop-k-init : goal.loop-k-init
loop-k-init c = whole_row c.args.rules.now _ _ (row_first c.args.rules.now c.args.all.now (length c.args.all.now) refl)

pub loop-k-preserved : goal.loop-k-preserved
loop-k-preserved c =
    kept_more c.args.rules.now c.args.all.now (length c.args.all.now) c.loop-k.k _ c.loop-k.row c.row_before.new.row refl c.loop-k-test.true
    c.requires.enough c.loop-k.invariant c.row_before.ensures.length c.row_before.ensures.lanes

pub returns : goal.returns
returns c =
    ap (λ (rest : Rest). rest.fresh)
    ((kept_last c.args.rules.now c.args.all.now (length c.args.all.now) c.loop-k.k c.loop-k.row c.loop-k-test.false c.loop-k.invariant).1
    c.args.rules.now.start c.requires.start c.requires.enough.0)
