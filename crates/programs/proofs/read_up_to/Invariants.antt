use Rattle.std.proofs.Common.{◌≡◌, ◌+◌, ◌-◌, ◌≤◌, length, false}
use Rattle.std.specs.Io.KnownBytes.{Consumes}
use Rattle.programs.proofs.read_up_to.Given as goal

abbrev pub invariant-reading : goal.invariant-reading
invariant-reading g l = record {
  read : Consumes (g.R.Source.state l.initial.reader).left (g.R.Source.state l.reader).left l.bytes.items;
  sound : (g.R.Source.state l.reader).failed ≡ false;
  few : length l.bytes.items ≤ l.too_many;
  bound : l.too_many ≡ l.initial.most + 1;
}

abbrev pub decreases-reading : goal.decreases-reading
decreases-reading g l = l.too_many - length l.bytes.items
