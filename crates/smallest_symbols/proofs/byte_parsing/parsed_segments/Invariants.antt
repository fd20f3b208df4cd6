-- The list has what was taken so far.
use Rattle.std.proofs.Common.{◌≡◌}
use Rattle.smallest_symbols.proofs.byte_parsing.parsed_segments.Given as goal

abbrev pub invariant-loop-segment : goal.invariant-loop-segment
invariant-loop-segment l = l.segments.items ≡ l.yielded
