-- Nothing fits a version before the class that comes next.
use Rattle.std.proofs.Common.{◌+◌, ◌-◌, ◌≤◌, chars}
use Rattle.smallest_symbols.specs.TextChoices.{NoneFitBefore}
use Rattle.smallest_symbols.proofs.text_choice.chosen_plan.Given as goal

abbrev pub invariant-loop-first : goal.invariant-loop-first
invariant-loop-first l = record {
  order : l.least ≤ l.first;
  last : l.first ≤ l.limit + 1;
  none : NoneFitBefore l.least (chars l.text) l.level l.first;
}

abbrev pub decreases-loop-first : goal.decreases-loop-first
decreases-loop-first l = l.limit + 1 - l.first
