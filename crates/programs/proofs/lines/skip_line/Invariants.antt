use Rattle.std.proofs.Common.{◌≡◌, false}
use Rattle.programs.specs.Lines.{BeginsLine}
use Rattle.programs.proofs.lines.skip_line.Given as goal

abbrev pub invariant-skipping : goal.invariant-skipping
invariant-skipping g l = record {
  begun : BeginsLine (g.R.Source.state l.initial.reader).left (g.R.Source.state l.reader).left;
  sound : (g.R.Source.state l.reader).failed ≡ false;
}
