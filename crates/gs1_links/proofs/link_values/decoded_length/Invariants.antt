use Rattle.std.proofs.Common.{length}
use Rattle.gs1_links.proofs.LinkLoops.{IsCounted}
use Rattle.gs1_links.proofs.link_values.decoded_length.Given as goal

abbrev pub invariant-loop-rest : goal.invariant-loop-rest
invariant-loop-rest l =
    IsCounted l.length l.rest l.text

abbrev pub decreases-loop-rest : goal.decreases-loop-rest
decreases-loop-rest l = length l.rest
