use Rattle.gs1.proofs.Parts.{string_behind, string_end}
use Rattle.gs1.proofs.write.string_of.Goals as goal

pub returns-then-end-rest : goal.returns-then-end-rest
returns-then-end-rest c = string_end _ _ _ _ _ _ _ c.first_of-end.ensures.place c.if-end-rest.true
    c.first_of-close.ensures.place c.behind.ensures c.in_ok-push_element.ensures c.loop-bytes.invariant

pub loop-bytes-preserved : goal.loop-bytes-preserved
loop-bytes-preserved c = string_behind _ _ _ _ _ _ _ _ _ c.first_of-end.ensures.place
    c.first_of-end.ensures.within c.if-end-rest.false c.first_of-close.ensures.place
    c.behind-rest.ensures c.behind.ensures c.in_ok-push_element.ensures c.in_ok-push_separator.ensures
    c.loop-bytes.invariant
