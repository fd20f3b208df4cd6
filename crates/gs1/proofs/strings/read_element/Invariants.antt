use Rattle.std.proofs.Common.{◌≡◌, List, length}
use Rattle.gs1.specs.Elements.{Element}
use Rattle.gs1.specs.Strings.{FindsBefore}
use Rattle.gs1.proofs.strings.read_element.Given as goal

abbrev pub invariant-loop : goal.invariant-loop
invariant-loop l =
    (before : List Element) × FindsBefore l.fn.bytes before l.left × (length before ≡ l.counter)
