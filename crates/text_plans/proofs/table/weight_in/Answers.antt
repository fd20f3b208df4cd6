-- The last row is that of the whole text.
use Rattle.std.proofs.Common.{length, arith, ap}
use Rattle.text_plans.specs.declared.row.Rest.{Rest}
use Rattle.text_plans.proofs.Ends.{kept_last}
use Rattle.text_plans.proofs.table.weight_in.Goals as goal

pub returns : goal.returns
returns c =
    ap (λ (rest : Rest). rest.fresh)
    ((kept_last c.args.rules.now c.args.all.now (length c.args.all.now) (length c.args.all.now) _ (omega arith)
    (c.requires.rows.1 (length c.args.all.now) (omega arith))).1
    c.args.rules.now.start c.requires.start c.requires.enough.0)
