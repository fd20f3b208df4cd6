use Rattle.std.proofs.Common.{◌≡◌, ◌≤◌, ◌+◌, length}
use Rattle.gs1.specs.Elements.{first_fault, elements_behind}
use Rattle.gs1.proofs.check.check_elements.Given as goal

abbrev pub invariant-loop-rest : goal.invariant-loop-rest
invariant-loop-rest l =
    (first_fault l.element (elements_behind l.rest) ≡ first_fault 0 (elements_behind l.fn.text))
    × (l.element + length l.rest ≤ length l.fn.text)

abbrev pub decreases-loop-rest : goal.decreases-loop-rest
decreases-loop-rest l = length l.rest
