-- Each line so far has its width.
use Rattle.std.proofs.Common.{◌≡◌, length}
use Rattle.uses.proofs.lines.label_widths.Given as goal

abbrev pub invariant-loop-line : goal.invariant-loop-line
invariant-loop-line l = length l.widths.items ≡ l.line-index
