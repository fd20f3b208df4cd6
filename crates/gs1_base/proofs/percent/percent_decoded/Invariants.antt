use Rattle.std.proofs.Common.{length}
use Rattle.gs1_base.specs.Percent.{ReadsBefore}
use Rattle.gs1_base.proofs.percent.percent_decoded.Given as goal

abbrev pub invariant-loop-rest : goal.invariant-loop-rest
invariant-loop-rest l = ReadsBefore l.text l.bytes.items l.rest

abbrev pub decreases-loop-rest : goal.decreases-loop-rest
decreases-loop-rest l = length l.rest
