use Rattle.std.proofs.Common.{sym}
use Rattle.std.proofs.lemmas.Result.{err_from_is_err_and}
use Rattle.gs1.proofs.Parts.{count_behind}
use Rattle.gs1.proofs.ValueChanges.{change_here, change_behind}
use Rattle.gs1.proofs.changes.check_changes.Goals as goal

pub returns-in_err-check_change : goal.returns-in_err-check_change
returns-in_err-check_change c =
    let p = err_from_is_err_and c.from_residual.result c.from_residual.ensures.1 in
    rw (p.1, p.2) (change_here _ _ _ _ _ _ c.first_of-end.ensures.place c.first_of-end.ensures.within
    c.if-end-rest.false c.behind-later.ensures (sym c.in_err-check_change.ensures) c.loop-rest.invariant.0)

pub loop-rest-preserved : goal.loop-rest-preserved
loop-rest-preserved c = (
  change_behind _ _ _ _ _ c.first_of-end.ensures.place c.first_of-end.ensures.within c.if-end-rest.false
      c.behind-later.ensures (sym c.in_ok-check_change.ensures) c.loop-rest.invariant.0,
  count_behind _ _ _ _ _
      c.first_of-end.ensures.within c.if-end-rest.false c.behind-later.ensures c.loop-rest.invariant.1,
)
