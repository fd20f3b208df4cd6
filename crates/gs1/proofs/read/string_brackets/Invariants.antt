use Rattle.std.proofs.Common.{map, length}
use Rattle.gs1.specs.Strings.{FindsBefore}
use Rattle.gs1.proofs.read.string_brackets.Given as goal

abbrev pub invariant-loop-first : goal.invariant-loop-first
invariant-loop-first l =
    FindsBefore l.bytes
    (map (λ e. record { identifier = e.identifier.now; value = e.value.now }) l.elements.items) l.rest

abbrev pub decreases-loop-first : goal.decreases-loop-first
decreases-loop-first l = length l.rest
