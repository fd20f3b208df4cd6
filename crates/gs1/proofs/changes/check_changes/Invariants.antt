use Rattle.std.proofs.Common.{◌≡◌, ◌≤◌, ◌+◌, length}
use Rattle.gs1.specs.Elements.{elements_behind}
use Rattle.gs1.specs.Together.{first_change}
use Rattle.gs1.proofs.changes.check_changes.Given as goal

abbrev pub invariant-loop-rest : goal.invariant-loop-rest
invariant-loop-rest l =
    (first_change l.element (elements_behind l.rest) ≡ first_change 0 (elements_behind l.fn.text))
    × (l.element + length l.rest ≤ length l.fn.text)

abbrev pub decreases-loop-rest : goal.decreases-loop-rest
decreases-loop-rest l = length l.rest
