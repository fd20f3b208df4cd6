use Rattle.gs1.proofs.Parts.{count_behind}
use Rattle.gs1.proofs.Conflicts.{among_here, among_none, among_behind}
use Rattle.gs1.proofs.together.first_among.Goals as goal

pub returns-then-has_among : goal.returns-then-has_among
returns-then-has_among c = among_here _ _ _ _ _ _ c.first_of-end.ensures.place c.first_of-end.ensures.within
    c.has_among.ensures c.if-has_among.true c.loop-rest.invariant.0

pub returns-then-end-rest : goal.returns-then-end-rest
returns-then-end-rest c = among_none _ _ _ _ _ _ c.first_of-end.ensures.place c.if-end-rest.true
    c.has_among.ensures c.if-has_among.false c.loop-rest.invariant.0

pub loop-rest-preserved : goal.loop-rest-preserved
loop-rest-preserved c = (
  among_behind _ _ _ _ _ _ _ c.first_of-end.ensures.place c.first_of-end.ensures.within c.if-end-rest.false
      c.has_among.ensures c.if-has_among.false c.behind-rest.ensures c.loop-rest.invariant.0,
  count_behind _ _ _ _ _
      c.first_of-end.ensures.within c.if-end-rest.false c.behind-rest.ensures c.loop-rest.invariant.1,
)
