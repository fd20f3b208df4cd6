-- The bytes so far have no control character.
use Rattle.std.proofs.Common.{◌≡◌, drop}
use Rattle.programs.specs.Quotes.{has_control}
use Rattle.programs.proofs.quotes.has_control.Given as goal

abbrev pub invariant-loop-i : goal.invariant-loop-i
invariant-loop-i l = has_control (drop l.i l.bytes) ≡ has_control l.bytes
