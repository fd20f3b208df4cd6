use Rattle.std.proofs.Common.{◌≡◌, ◌+◌, ◌++◌, length, take}
use Rattle.gs1_links.specs.LinkFaults.{decoded}
use Rattle.gs1_links.proofs.link_values.decode_to.Given as goal

abbrev pub invariant-loop-byte : goal.invariant-loop-byte
invariant-loop-byte l =
    (take l.length l.buffer ++ decoded l.rest ≡ decoded l.text)
    × (l.length + length (decoded l.rest) ≡ length (decoded l.text)) × (length l.buffer ≡ 90)

abbrev pub decreases-loop-byte : goal.decreases-loop-byte
decreases-loop-byte l = length l.rest
