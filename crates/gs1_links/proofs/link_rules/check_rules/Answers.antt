use Rattle.std.proofs.Common.{sym}
use Rattle.std.proofs.lemmas.Result.{err_from_is_err_and}
use Rattle.gs1.proofs.Parts.{count_behind}
use Rattle.gs1_links.proofs.Rules.{rule_qualifier, rule_end, rule_later, rule_behind}
use Rattle.gs1_links.proofs.link_rules.check_rules.Goals as goal

pub returns-in_err-check_qualifier : goal.returns-in_err-check_qualifier
returns-in_err-check_qualifier c =
    let p = err_from_is_err_and c.from_residual.result c.from_residual.ensures.1 in
    rw (p.1, p.2) (rule_qualifier _ _ _ _ _ _ _ c.first_of-end.ensures.place c.first_of-end.ensures.within
    c.number_at-identifier.ensures (sym c.in_err-check_qualifier.ensures) c.loop-rest.invariant.0)

pub returns-in_err-check_later : goal.returns-in_err-check_later
returns-in_err-check_later c =
    let p = err_from_is_err_and c.from_residual-in_err-check_later.result c.from_residual-in_err-check_later.ensures.1 in
    rw (p.1, p.2) (rule_later _ _ _ _ _ _ _ _ c.first_of-end.ensures.place c.first_of-end.ensures.within
    c.if-end-rest.false c.number_at-identifier.ensures (sym c.in_ok-check_qualifier.ensures)
    c.behind-rest.ensures (sym c.in_err-check_later.ensures) c.loop-rest.invariant.0)

pub returns-then-end-rest : goal.returns-then-end-rest
returns-then-end-rest c =
    rule_end _ _ _ _ _ _ c.first_of-end.ensures.place c.if-end-rest.true c.number_at-identifier.ensures
    (sym c.in_ok-check_qualifier.ensures) c.loop-rest.invariant.0

pub loop-rest-preserved : goal.loop-rest-preserved
loop-rest-preserved c = (
  rule_behind _ _ _ _ _ _ _ c.first_of-end.ensures.place c.first_of-end.ensures.within
      c.if-end-rest.false c.number_at-identifier.ensures (sym c.in_ok-check_qualifier.ensures)
      c.behind-rest.ensures (sym c.in_ok-check_later.ensures) c.loop-rest.invariant.0,
  count_behind _ _ _ _ _
      c.first_of-end.ensures.within c.if-end-rest.false c.behind-rest.ensures c.loop-rest.invariant.1,
)
