-- Nothing fits a version before the class that comes next.
use Rattle.std.proofs.Common.{◌+◌, ◌-◌, ◌≤◌}
use Rattle.smallest_symbols.specs.ByteChoices.{NoPiecesFitBefore}
use Rattle.smallest_symbols.proofs.byte_choice.chosen_plan.Given as goal

abbrev pub invariant-loop-first : goal.invariant-loop-first
invariant-loop-first l = record {
  order : l.least ≤ l.first;
  last : l.first ≤ l.limit + 1;
  none : NoPiecesFitBefore l.least l.bytes l.level l.first;
}

abbrev pub decreases-loop-first : goal.decreases-loop-first
decreases-loop-first l = l.limit + 1 - l.first
