-- No version before this one holds the bits.
use Rattle.smallest_symbols.specs.Holding.{NoneHoldsBefore}
use Rattle.smallest_symbols.proofs.versions.first_holding.Given as goal

abbrev pub invariant-loop-number : goal.invariant-loop-number
invariant-loop-number l = NoneHoldsBefore l.bits l.level l.first l.number
