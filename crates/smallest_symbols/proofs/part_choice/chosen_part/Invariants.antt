-- Nothing fits a version before the class that comes next.
use Rattle.std.proofs.Common.{◌+◌, ◌-◌, ◌≤◌, chars}
use Rattle.smallest_symbols.proofs.PartVersions.{NoneFitUpTo}
use Rattle.smallest_symbols.proofs.part_choice.chosen_part.Given as goal

abbrev pub invariant-loop-first : goal.invariant-loop-first
invariant-loop-first l = record {
  some : 1 ≤ l.first;
  none : NoneFitUpTo l.manner (chars l.text) l.level l.first;
}

abbrev pub decreases-loop-first : goal.decreases-loop-first
decreases-loop-first l = l.limit + 1 - l.first
