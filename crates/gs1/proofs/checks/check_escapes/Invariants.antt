use Rattle.std.proofs.Common.{◌≡◌, ◌+◌, drop}
use Rattle.gs1.specs.Checks.{escapes_fault}
use Rattle.gs1.proofs.checks.check_escapes.Given as goal

abbrev pub invariant-loop-at : goal.invariant-loop-at
invariant-loop-at l =
    escapes_fault (l.place + l.at) (drop l.at l.piece) ≡ escapes_fault l.place l.piece
