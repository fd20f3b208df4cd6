-- The labels of the lines so far are written.
use Rattle.std.proofs.Common.{◌≡◌, false}
use Rattle.programs.specs.Devices.{output}
use Rattle.labels.specs.Lines.{DrawsBefore, stream}
use Rattle.labels.proofs.lines.draw_lines.Given as goal

abbrev pub invariant-lines : goal.invariant-lines
invariant-lines g l = record {
  drawn : DrawsBefore l.label l.options l.every l.number (g.R.Source.state l.initial.reader).left (g.R.Source.state l.reader).left
      (stream (output (g.W.Sink.state l.initial.writer) (g.W.Sink.state l.writer)) l.label.first
      (output (g.E.Sink.state l.initial.errors) (g.E.Sink.state l.errors)));
  reader_sound : (g.R.Source.state l.reader).failed ≡ false;
  writer_sound : (g.W.Sink.state l.writer).failed ≡ false;
}
