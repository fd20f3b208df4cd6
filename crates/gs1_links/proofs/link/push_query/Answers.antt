use Rattle.std.proofs.Common.{[]}
use Rattle.gs1_links.proofs.LinkTexts.{query_end, query_behind}
use Rattle.gs1_links.proofs.link.push_query.Goals as goal

pub returns-then-end-rest : goal.returns-then-end-rest
returns-then-end-rest c =
    query_end c.args.key _ _ _ c.in_ok-separator.separator _ _ _ c.first_of-end.ensures.place c.if-end-rest.true
    (c.in_ok-separator.ensures []) c.loop-separator.invariant

pub loop-separator-preserved : goal.loop-separator-preserved
loop-separator-preserved c =
    query_behind c.args.key _ _ _ _ _ _ _ _ c.first_of-end.ensures.place c.first_of-end.ensures.within c.if-end-rest.false
    c.behind-rest.ensures c.in_ok-separator.ensures c.loop-separator.invariant
