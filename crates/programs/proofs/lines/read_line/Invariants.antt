use Rattle.std.proofs.Common.{◌≡◌, ◌-◌, ◌≤◌, length, false}
use Rattle.programs.specs.Lines.{ReadsPart}
use Rattle.programs.proofs.lines.read_line.Given as goal

abbrev pub invariant-reading : goal.invariant-reading
invariant-reading g l = record {
  part : ReadsPart (g.R.Source.state l.initial.reader).left (g.R.Source.state l.reader).left l.line.items;
  sound : (g.R.Source.state l.reader).failed ≡ false;
  few : length l.line.items ≤ l.too_many;
}

abbrev pub decreases-reading : goal.decreases-reading
decreases-reading g l = l.too_many - length l.line.items
