-- The characters so far.
use Rattle.std.proofs.Common.{◌≡◌}
use Rattle.text_plans.proofs.least.chars_of.Given as goal

abbrev pub invariant-loop-c : goal.invariant-loop-c
invariant-loop-c l = l.all.items ≡ l.yielded
