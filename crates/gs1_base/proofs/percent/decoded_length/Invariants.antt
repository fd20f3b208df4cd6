use Rattle.std.proofs.Common.{◌+◌, ◌≤◌, List, ℕ, length}
use Rattle.gs1_base.specs.Percent.{ReadsBefore}
use Rattle.gs1_base.proofs.percent.decoded_length.Given as goal

abbrev pub invariant-loop-rest : goal.invariant-loop-rest
invariant-loop-rest l =
    ((before : List ℕ) × ReadsBefore l.text before l.rest) × (l.length + length l.rest ≤ length l.text)

abbrev pub decreases-loop-rest : goal.decreases-loop-rest
decreases-loop-rest l = length l.rest
