-- What was passed on and what is waiting are what was waiting at first.
use Rattle.std.proofs.Common.{◌≡◌, false, length}
use Rattle.std.specs.Io.KnownBytes.{append_known, Keeps}
use Rattle.programs.proofs.gathered.Gathered.pass_on.Given as goal

abbrev pub invariant-passing : goal.invariant-passing
invariant-passing g l = record {
  kept : Keeps (append_known (g.W.Sink.state l.initial.self.inner).written l.initial.self.waiting.items)
      (append_known (g.W.Sink.state l.self.inner).written l.self.waiting.items);
  sound : (g.W.Sink.state l.self.inner).failed ≡ false;
}

abbrev pub decreases-passing : goal.decreases-passing
decreases-passing g l = length l.self.waiting.items
