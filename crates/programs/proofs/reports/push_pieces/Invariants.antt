-- The pieces so far were written.
use Rattle.std.proofs.Common.{◌≡◌, take, false}
use Rattle.std.specs.Prelude.{flat_map}
use Rattle.std.specs.Io.KnownBytes.{Appends}
use Rattle.programs.proofs.reports.push_pieces.Given as goal

abbrev pub invariant-loop-piece : goal.invariant-loop-piece
invariant-loop-piece g l = record {
  sent : Appends (g.E.Sink.state l.initial.errors).written (g.E.Sink.state l.errors).written (flat_map (λ piece. piece.now) (take l.piece-index l.pieces));
  sound : (g.E.Sink.state l.errors).failed ≡ false;
}
