-- The first cuts were made, and the next part begins at the place of index `first`.
use Rattle.smallest_symbols.proofs.FewestCuts.{AreCutsUpTo}
use Rattle.smallest_symbols.proofs.text_cuts.longest_parts.Given as goal

abbrev pub invariant-loop-count : goal.invariant-loop-count
invariant-loop-count l = AreCutsUpTo l.manner l.text l.level l.limit l.places l.first l.count l.cuts.items
