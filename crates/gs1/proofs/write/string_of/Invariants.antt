use Rattle.std.proofs.Common.{◌≡◌, ◌++◌, length}
use Rattle.gs1.specs.Elements.{elements_behind}
use Rattle.gs1.specs.Reader.{string_of}
use Rattle.gs1.proofs.write.string_of.Given as goal

abbrev pub invariant-loop-bytes : goal.invariant-loop-bytes
invariant-loop-bytes l =
    l.bytes.items ++ string_of (elements_behind l.rest) ≡ string_of (elements_behind l.fn.text)

abbrev pub decreases-loop-bytes : goal.decreases-loop-bytes
decreases-loop-bytes l = length l.rest
