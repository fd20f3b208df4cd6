-- The files of the drawings before are written.
use Rattle.std.proofs.Common.{◌≡◌, false, map, take, vec_items}
use Rattle.label_words.specs.Numberings.{numbering_of}
use Rattle.labels.specs.{FileStates.AddsFiles, Folders.part_files}
use Rattle.labels.proofs.part_files.put_parts.Given as goal

abbrev pub invariant-parts : goal.invariant-parts
invariant-parts g l = record {
  added : AddsFiles (g.F.Files.state l.initial.files).files (g.F.Files.state l.files).files
      (part_files (numbering_of l.name) 1 (take l.index (map vec_items l.drawings)));
  sound : (g.F.Files.state l.files).failed ≡ false;
}
