use Rattle.std.proofs.Common.{map, length}
use Rattle.gs1.specs.Strings.{FindsBefore}
use Rattle.gs1.specs.Read.{scanned}
use Rattle.gs1.proofs.read.elements_of.Given as goal

abbrev pub invariant-loop-rest : goal.invariant-loop-rest
invariant-loop-rest l =
    FindsBefore (scanned l.bytes)
    (map (λ e. record { identifier = e.identifier.now; value = e.value.now }) l.elements.items) l.rest

abbrev pub decreases-loop-rest : goal.decreases-loop-rest
decreases-loop-rest l = length l.rest
