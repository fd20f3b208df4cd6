-- One version more, and all of them.
use Rattle.std.proofs.Common.{arith}
use Rattle.smallest_symbols.proofs.MoreVersions.{holds_more}
use Rattle.smallest_symbols.proofs.versions.first_holding.Goals as goal

pub loop-number-preserved : goal.loop-number-preserved
loop-number-preserved c =
    holds_more c.args.bits c.args.level c.args.first c.loop-number.number c.holds.result c.loop-number.invariant c.holds.ensures c.if-holds.false

pub returns-clause-none : goal.returns-clause-none
returns-clause-none c = λ n from below. c.loop-number.invariant n from (omega (arith, below, c.loop-number-test.false))
