use Rattle.std.proofs.Common.{◌≡◌, ◌+◌, ◌≤◌, List, length}
use Rattle.std.specs.Prelude.{None}
use Rattle.gs1.specs.Elements.{Element}
use Rattle.gs1.specs.Values.{first_error}
use Rattle.gs1.specs.Strings.{FindsBefore}
use Rattle.gs1.proofs.checked.check_element_values.Given as goal

abbrev pub invariant-loop-rest : goal.invariant-loop-rest
invariant-loop-rest l =
    ((before : List Element) × FindsBefore l.fn.bytes before l.rest × (first_error 0 before ≡ None)
    × (length before ≡ l.element))
    × (l.element + length l.rest ≤ length l.fn.bytes)

abbrev pub decreases-loop-rest : goal.decreases-loop-rest
decreases-loop-rest l = length l.rest
