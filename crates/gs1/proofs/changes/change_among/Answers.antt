use Rattle.gs1.proofs.Parts.{count_behind}
use Rattle.gs1.proofs.ValueChanges.{among_here, among_none, among_behind}
use Rattle.gs1.proofs.changes.change_among.Goals as goal

pub returns-then-is_change-clause-first : goal.returns-then-is_change-clause-first
returns-then-is_change-clause-first c = among_here _ _ _ _ _ _ c.first_of-end.ensures.place c.first_of-end.ensures.within
    c.is_change.ensures c.if-is_change.true c.loop-rest.invariant.0

pub returns-then-end-rest-clause-first : goal.returns-then-end-rest-clause-first
returns-then-end-rest-clause-first c = among_none _ _ _ _ _ _ c.first_of-end.ensures.place c.if-end-rest.true
    c.is_change.ensures c.if-is_change.false c.loop-rest.invariant.0

pub loop-rest-preserved : goal.loop-rest-preserved
loop-rest-preserved c = (
  among_behind _ _ _ _ _ _ _ c.first_of-end.ensures.place c.first_of-end.ensures.within c.if-end-rest.false
      c.is_change.ensures c.if-is_change.false c.behind-rest.ensures c.loop-rest.invariant.0,
  count_behind _ _ _ _ _
      c.first_of-end.ensures.within c.if-end-rest.false c.behind-rest.ensures c.loop-rest.invariant.1,
)
