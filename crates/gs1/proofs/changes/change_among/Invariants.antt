use Rattle.std.proofs.Common.{◌≡◌, ◌≤◌, ◌+◌, length}
use Rattle.gs1.specs.Elements.{element_of, elements_behind}
use Rattle.gs1.specs.Together.{change_among}
use Rattle.gs1.proofs.changes.change_among.Given as goal

abbrev pub invariant-loop-rest : goal.invariant-loop-rest
invariant-loop-rest l =
    (change_among (element_of l.part) l.element (elements_behind l.rest)
    ≡ change_among (element_of l.part) 0 (elements_behind l.fn.text))
    × (l.element + length l.rest ≤ length l.fn.text)

abbrev pub decreases-loop-rest : goal.decreases-loop-rest
decreases-loop-rest l = length l.rest
