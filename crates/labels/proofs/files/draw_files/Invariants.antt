-- The labels of the lines so far are in files.
use Rattle.std.proofs.Common.{◌≡◌, false}
use Rattle.programs.specs.Devices.{output}
use Rattle.label_words.specs.Numberings.{numbering_of}
use Rattle.labels.specs.{Folders.folder, Lines.DrawsBefore}
use Rattle.labels.proofs.files.draw_files.Given as goal

abbrev pub invariant-lines : goal.invariant-lines
invariant-lines g l = record {
  drawn : DrawsBefore l.label l.options l.every l.number (g.R.Source.state l.initial.reader).left (g.R.Source.state l.reader).left
      (folder (g.F.Files.state l.initial.files) (g.F.Files.state l.files) l.label.first (numbering_of l.name)
      (output (g.E.Sink.state l.initial.errors) (g.E.Sink.state l.errors)));
  reader_sound : (g.R.Source.state l.reader).failed ≡ false;
  files_sound : (g.F.Files.state l.files).failed ≡ false;
}
