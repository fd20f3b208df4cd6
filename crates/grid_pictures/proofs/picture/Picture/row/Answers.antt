use Rattle.std.proofs.Common.{◌∙◌, sym, arith}
use Rattle.grid_pictures.specs.{Picture.shown}
use Rattle.grid_pictures.proofs.RowLemmas.{none_dark, row_dark, zone_before, zone_after}
use Rattle.grid_pictures.proofs.picture.Picture.row.Goals as goal
use Rattle.grid_pictures.proofs.picture.Picture.row.Goals.{then-row-quiet-via-then-row-quiet, then-row-quiet-via-else-row-quiet+then-row-quiet-2}

pub returns-then-row-quiet-clause-dark : goal.returns-then-row-quiet-clause-dark
returns-then-row-quiet-clause-dark c = λ column.
    none_dark c.args.self.now.quiet column ∙ sym (elim c.then-row-quiet.branch [
      | then-row-quiet-via-then-row-quiet w ↦ zone_before (shown c.args.self.now) column c.args.row (omega (arith, w.if-row-quiet))
      | then-row-quiet-via-else-row-quiet+then-row-quiet-2 w ↦ zone_after (shown c.args.self.now) column c.args.row (omega (arith, w.if-row-quiet-2))
    ])

pub returns-clause-dark : goal.returns-clause-dark
returns-clause-dark c = λ column.
    row_dark (shown c.args.self.now) column c.args.row (omega (arith, c.if-row-quiet.false)) (omega (arith, c.if-row-quiet-2.false))
