-- The first cuts were made, and the next part begins at the place of index `first`.
use Rattle.qrcode_core.proofs.Prelude.{nat_abs}
use Rattle.qrcode_core.proofs.BestCuts.{IsCutUpTo}
use Rattle.qrcode_core.proofs.symbol.cuts.longest_parts.Given as goal

abbrev pub invariant-loop-count : goal.invariant-loop-count
invariant-loop-count l = IsCutUpTo l.content l.bytes l.level (nat_abs l.max_version) l.places.items l.first l.count l.cuts.items
