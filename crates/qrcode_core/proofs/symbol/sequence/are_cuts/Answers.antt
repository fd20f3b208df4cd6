-- Sorted cuts don't fall; where they aren't sorted, one of them falls.
use Rattle.qrcode_core.proofs.Prelude.{true, false, arith}
use Rattle.std.proofs.lemmas.List.Sorted.{non_decreasing_from_is_sorted}
use Rattle.qrcode_core.proofs.symbol.sequence.are_cuts.Goals as goal

pub returns-then-is_sorted-clause-ordered : goal.returns-then-is_sorted-clause-ordered
returns-then-is_sorted-clause-ordered c = λ all. non_decreasing_from_is_sorted c.args.cuts.now true c.if-is_sorted.ensures.cases

pub returns-else-is_sorted-clause-taken : goal.returns-else-is_sorted-clause-taken
returns-else-is_sorted-clause-taken c =
    grind (arith, non_decreasing_from_is_sorted c.args.cuts.now false c.if-is_sorted.ensures.cases, c.if-is_sorted.ensures.cases)
