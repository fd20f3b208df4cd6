use Rattle.gs1.proofs.Scans.{begun_shorter, pushed}
use Rattle.gs1.proofs.read.string_brackets.Goals as goal

pub loop-first-smaller : goal.loop-first-smaller
loop-first-smaller c = begun_shorter _ _ _ c.behind_first-rest.ensures c.in-Some.ensures.begins

pub loop-first-preserved : goal.loop-first-preserved
loop-first-preserved c =
    pushed _ _ _ _ _ _ _ c.in_ok-push.ensures.items c.behind_first-rest.ensures c.loop-first.invariant c.in-Some.ensures.begins
