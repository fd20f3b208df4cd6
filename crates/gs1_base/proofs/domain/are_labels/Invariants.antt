use Rattle.std.proofs.Common.{◌≡◌, length}
use Rattle.gs1_base.specs.Domains.{are_labels}
use Rattle.gs1_base.proofs.domain.are_labels.Given as goal

abbrev pub invariant-loop-rest : goal.invariant-loop-rest
invariant-loop-rest l = are_labels l.rest ≡ are_labels l.host

abbrev pub decreases-loop-rest : goal.decreases-loop-rest
decreases-loop-rest l = length l.rest
