use Rattle.std.proofs.Common.{sym}
use Rattle.std.proofs.lemmas.Result.{err_from_is_err_and}
use Rattle.gs1.proofs.Parts.{count_behind}
use Rattle.gs1.proofs.Conflicts.{conflict_here, conflict_behind}
use Rattle.gs1.proofs.together.check_all.Goals as goal

pub returns-in_err-check_part : goal.returns-in_err-check_part
returns-in_err-check_part c =
    let p = err_from_is_err_and c.from_residual.result c.from_residual.ensures.1 in
    rw (p.1, p.2) (conflict_here _ _ _ _ _ _ c.first_of-end.ensures.place c.first_of-end.ensures.within
    (sym c.in_err-check_part.ensures) c.loop-rest.invariant.0)

pub loop-rest-preserved : goal.loop-rest-preserved
loop-rest-preserved c = (
  conflict_behind _ _ _ _ _ _ c.first_of-end.ensures.place
      c.first_of-end.ensures.within c.if-end-rest.false (sym c.in_ok-check_part.ensures)
      c.behind-rest.ensures c.loop-rest.invariant.0,
  count_behind _ _ _ _ _
      c.first_of-end.ensures.within c.if-end-rest.false c.behind-rest.ensures c.loop-rest.invariant.1,
)
