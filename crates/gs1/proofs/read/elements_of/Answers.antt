use Rattle.std.proofs.Common.{subst}
use Rattle.gs1.specs.Checked.{AreAllowedElements}
use Rattle.gs1.proofs.Cuts.{shorter}
use Rattle.gs1_base.proofs.Lists.{some_left, none_left, some_bytes}
use Rattle.gs1.proofs.Scans.{never_none, all_found, pushed}
use Rattle.gs1.proofs.read.elements_of.Goals as goal

pub unreachable-requires : goal.unreachable-requires
unreachable-requires c =
    never_none _ _ _ (subst AreAllowedElements c.scanned-rest.ensures c.in_ok-check_element_values.ensures.allowed)
    c.loop-rest.invariant (some_bytes _ (some_left _ _ c.is_empty.ensures c.loop-rest-test.true)) c.in_default.ensures.none

pub loop-rest-smaller : goal.loop-rest-smaller
loop-rest-smaller c =
    rw c.behind_first-rest.ensures (shorter _ (some_left _ _ c.is_empty.ensures c.loop-rest-test.true))

pub loop-rest-preserved : goal.loop-rest-preserved
loop-rest-preserved c =
    pushed _ _ _ _ _ _ _ c.in_ok-push.ensures.items c.behind_first-rest.ensures c.loop-rest.invariant c.in-Some.ensures.begins

pub returns-clause-found : goal.returns-clause-found
returns-clause-found c =
    all_found _ _ _ c.loop-rest.invariant (none_left _ _ c.is_empty.ensures c.loop-rest-test.false)
