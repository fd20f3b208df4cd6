use Rattle.gs1.proofs.Escapes.{escapes_behind}
use Rattle.gs1.proofs.checks.check_escapes.Goals as goal

pub loop-at-preserved : goal.loop-at-preserved
loop-at-preserved c = escapes_behind c.args.place c.loop-at.at c.args.piece.now _ _ c.loop-at-test.true
    c.is_wrong_escape-wrong.ensures c.in_ok-fault_if.ensures c.loop-at.invariant
