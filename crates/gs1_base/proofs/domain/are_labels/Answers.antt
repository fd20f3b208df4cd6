use Rattle.std.proofs.Common.{sym, ◌∙◌}
use Rattle.gs1_base.proofs.Hosts.{label_wrong, label_last, label_behind}
use Rattle.gs1_base.proofs.domain.are_labels.Goals as goal

pub returns-then-not-is_length : goal.returns-then-not-is_length
returns-then-not-is_length c =
    label_wrong _ _ _ c.first_of-end.ensures.place c.first_of-end.ensures.within
    (sym c.is_length.ensures ∙ c.if-not-is_length.true) c.loop-rest.invariant

pub returns-then-end-rest : goal.returns-then-end-rest
returns-then-end-rest c =
    label_last _ _ _ c.first_of-end.ensures.place c.first_of-end.ensures.within c.if-end-rest.true
    (sym c.is_length.ensures ∙ c.if-not-is_length.false) c.loop-rest.invariant

pub loop-rest-preserved : goal.loop-rest-preserved
loop-rest-preserved c =
    label_behind _ _ _ _ c.first_of-end.ensures.place c.first_of-end.ensures.within c.if-end-rest.false
    (sym c.is_length.ensures ∙ c.if-not-is_length.false) c.behind-rest.ensures c.loop-rest.invariant
