use Rattle.std.proofs.Common.{◌≡◌, ◌++◌, length}
use Rattle.gs1_links.specs.LinkFaults.{decoded}
use Rattle.gs1_links.proofs.link_values.decoded.Given as goal

abbrev pub invariant-loop-byte : goal.invariant-loop-byte
invariant-loop-byte l =
    l.bytes.items ++ decoded l.rest ≡ decoded l.text

abbrev pub decreases-loop-byte : goal.decreases-loop-byte
decreases-loop-byte l = length l.rest
