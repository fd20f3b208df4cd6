-- The pages of the lines so far are written.
use Rattle.std.proofs.Common.{◌≡◌, false}
use Rattle.std.specs.Option.{option_copied}
use Rattle.labels.specs.Lines.{DrawsBefore}
use Rattle.labels.proofs.PageLemmas.{so_far_place}
use Rattle.labels.proofs.document.draw_pages.Given as goal

abbrev pub invariant-lines : goal.invariant-lines
invariant-lines g l = record {
  drawn : DrawsBefore l.label l.options l.every l.number (g.R.Source.state l.initial.reader).left (g.R.Source.state l.reader).left
      (so_far_place (option_copied l.options.title) l.begun.pages l.begun.waiting.items (g.W.Sink.state l.initial.writer) (g.W.Sink.state l.writer)
      (g.E.Sink.state l.initial.errors) (g.E.Sink.state l.errors) l.label.first);
  reader_sound : (g.R.Source.state l.reader).failed ≡ false;
  writer_sound : (g.W.Sink.state l.writer).failed ≡ false;
}
