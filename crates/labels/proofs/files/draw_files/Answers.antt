-- The next label is in its file, or not, or the line is left out, or there is none.
use Rattle.std.proofs.Common.{◌&&◌, ◌∙◌, sym, arith, rules, ap}
use Rattle.programs.specs.Devices.{output}
use Rattle.label_words.specs.Numberings.{numbering_of}
use Rattle.labels.specs.{Folders.folder, Stop.made_of}
use Rattle.labels.proofs.LabelLemmas.{writes_until, never_write, DrawsBefore-none, DrawsBefore-more, DrawsBefore-ended, folder_none, folder_step, folder_fails, drawn_is}
use Rattle.labels.proofs.files.draw_files.Goals as goal

pub returns-in-Ok-None-clause-outcome : goal.returns-in-Ok-None-clause-outcome
returns-in-Ok-None-clause-outcome g c = record {
  writes = record {
    number = c.lines.number;
    drawn = DrawsBefore-ended _ _ _ c.lines.number _ _ _ _ c.lines.invariant.drawn (rw (c.in-Ok-None.field-0-is) at c.in-Ok-None.ensures.made);
    ended = (rw (c.in-Ok-None.field-0-is) at c.in-Ok-None.ensures.made).ended;
  };
  read = grind (arith, c.in-Ok-None.ensures.failure);
  write = grind (arith, c.lines.invariant.files_sound);
}

pub returns-in-Err-clause-outcome : goal.returns-in-Err-clause-outcome
returns-in-Err-clause-outcome g c = record {
  writes = writes_until _ _ _ c.lines.number (g.R.Source.state c.args.reader.now) (g.R.Source.state c.lines.reader) (g.R.Source.state c.next_made.new.reader)
      _ c.in-Err.stop
      c.lines.invariant.drawn c.in-Err.ensures.refusal;
  read = grind (arith, c.in-Err.ensures.failure);
  write = grind (arith, c.lines.invariant.files_sound, never_write _ _ _ c.in-Err.stop c.in-Err.ensures.refusal);
}

pub lines-init : goal.lines-init
lines-init g c = record {
  drawn = DrawsBefore-none c.args.label.now c.args.options.now (g.R.Source.state c.args.reader.now).left
      (folder (g.F.Files.state c.args.files.now) (g.F.Files.state c.args.files.now) c.args.label.now.first (numbering_of c.args.name.now)
      (output (g.E.Sink.state c.args.errors.now) (g.E.Sink.state c.args.errors.now)))
      (folder_none (numbering_of c.args.name.now) (g.F.Files.state c.args.files.now) (g.E.Sink.state c.args.errors.now) c.args.label.now.first);
  reader_sound = search rules;
  files_sound = search rules;
}

pub lines-preserved : goal.lines-preserved
lines-preserved g c =
    let name = numbering_of c.args.name.now in
    let e = g.F.Files.state c.args.files.now in
    let f = g.F.Files.state c.lines.files in
    let h = g.F.Files.state c.put_made.new.files in
    let a = g.E.Sink.state c.args.errors.now in
    let b = g.E.Sink.state c.lines.errors in
    let d = g.E.Sink.state c.put_made.new.errors in
    let n = c.args.label.now.first in
    let made = c.in-Ok-Some.made in
    let ensures = c.in-Ok.ensures in
    record {
      drawn = DrawsBefore-more _ _ c.lines.every _ c.lines.number _ _ _ (folder e f n name (output a b)) (folder e h n name (output a d)) (made_of made)
          c.lines.invariant.drawn (rw (c.in-Ok-Some.field-0-is) at c.in-Ok-Some.ensures.made)
          (ap (λ e. c.lines.every && e) (ensures.drawn ∙ sym (drawn_is made)))
          (folder_step name c.lines.number n e f h a b d made ensures.put ensures.left_out);
      reader_sound = search rules;
      files_sound = ensures.sound;
    }

pub returns-in-Err-put_made-clause-outcome : goal.returns-in-Err-put_made-clause-outcome
returns-in-Err-put_made-clause-outcome g c =
    let name = numbering_of c.args.name.now in
    let e = g.F.Files.state c.args.files.now in
    let f = g.F.Files.state c.lines.files in
    let h = g.F.Files.state c.put_made.new.files in
    let a = g.E.Sink.state c.args.errors.now in
    let b = g.E.Sink.state c.lines.errors in
    let d = g.E.Sink.state c.put_made.new.errors in
    let ensures = c.in-Err-put_made.ensures in
    record {
      writes = rw (ensures.broken.0) (folder_fails _ _ c.lines.every c.lines.number (g.R.Source.state c.args.reader.now) (g.R.Source.state c.lines.reader)
          (g.R.Source.state c.next_made.new.reader) name e f h a b d c.args.label.now.first c.in-Ok-Some.made _
          c.lines.invariant.drawn (rw (c.in-Ok-Some.field-0-is) at c.in-Ok-Some.ensures.made) ensures.broken.1 ensures.broken.2 ensures.broken.3 ensures.broken.4);
      read = grind (arith, c.in-Ok-Some.ensures.failure, ensures.broken.4);
      write = grind (arith, c.lines.invariant.files_sound, ensures.broken.4);
    }
