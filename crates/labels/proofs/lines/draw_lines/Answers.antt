-- The next label was written, or a beginning of it, or the line is left out, or there is none.
use Rattle.std.proofs.Common.{◌&&◌, ◌∙◌, inl, sym, arith, rules, ap}
use Rattle.programs.specs.Devices.{output}
use Rattle.labels.specs.Lines.{stream}
use Rattle.labels.proofs.LabelLemmas.{writes_until, never_write, DrawsBefore-none, DrawsBefore-more, DrawsBefore-ended, stream_none, stream_step, stream_stops, drawn_is}
use Rattle.labels.specs.Stop.{made_of}
use Rattle.labels.proofs.lines.draw_lines.Goals as goal

pub returns-in-Ok-None : goal.returns-in-Ok-None
returns-in-Ok-None g c = record {
  writes = record {
    number = c.lines.number;
    drawn = DrawsBefore-ended _ _ _ c.lines.number _ _ _ _ c.lines.invariant.drawn (rw (c.in-Ok-None.field-0-is) at c.in-Ok-None.ensures.made);
    ended = (rw (c.in-Ok-None.field-0-is) at c.in-Ok-None.ensures.made).ended;
  };
  read = grind (arith, c.in-Ok-None.ensures.failure);
  write = grind (arith, c.lines.invariant.writer_sound);
}

pub returns-in-Err : goal.returns-in-Err
returns-in-Err g c = record {
  writes = writes_until _ _ _ c.lines.number (g.R.Source.state c.args.reader.now) (g.R.Source.state c.lines.reader) (g.R.Source.state c.next_made.new.reader)
      _ c.in-Err.stop
      c.lines.invariant.drawn c.in-Err.ensures.refusal;
  read = grind (arith, c.in-Err.ensures.failure);
  write = grind (arith, c.lines.invariant.writer_sound, never_write _ _ _ c.in-Err.stop c.in-Err.ensures.refusal);
}

pub lines-init : goal.lines-init
lines-init g c = record {
  drawn = DrawsBefore-none c.args.label.now c.args.options.now (g.R.Source.state c.args.reader.now).left
      (stream (output (g.W.Sink.state c.args.writer.now) (g.W.Sink.state c.args.writer.now)) c.args.label.now.first
      (output (g.E.Sink.state c.args.errors.now) (g.E.Sink.state c.args.errors.now)))
      (stream_none (g.W.Sink.state c.args.writer.now) (g.E.Sink.state c.args.errors.now) c.args.label.now.first);
  reader_sound = search rules;
  writer_sound = search rules;
}

pub lines-preserved : goal.lines-preserved
lines-preserved g c =
    let u = g.W.Sink.state c.args.writer.now in
    let v = g.W.Sink.state c.lines.writer in
    let w = g.W.Sink.state c.write_made.new.writer in
    let a = g.E.Sink.state c.args.errors.now in
    let b = g.E.Sink.state c.lines.errors in
    let d = g.E.Sink.state c.write_made.new.errors in
    let n = c.args.label.now.first in
    let made = c.in-Ok-Some.made in
    let ensures = c.in-Ok.ensures in
    record {
      drawn = DrawsBefore-more _ _ c.lines.every _ c.lines.number _ _ _ (stream (output u v) n (output a b)) (stream (output u w) n (output a d)) (made_of made)
          c.lines.invariant.drawn (rw (c.in-Ok-Some.field-0-is) at c.in-Ok-Some.ensures.made)
          (ap (λ e. c.lines.every && e) (ensures.drawn ∙ sym (drawn_is made)))
          (stream_step u v w a b d c.lines.number n made ensures.written ensures.flushed ensures.sound ensures.left_out);
      reader_sound = search rules;
      writer_sound = ensures.sound;
    }

pub returns-in-Err-write_made : goal.returns-in-Err-write_made
returns-in-Err-write_made g c =
    let u = g.W.Sink.state c.args.writer.now in
    let v = g.W.Sink.state c.lines.writer in
    let w = g.W.Sink.state c.write_made.new.writer in
    let a = g.E.Sink.state c.args.errors.now in
    let b = g.E.Sink.state c.lines.errors in
    let d = g.E.Sink.state c.write_made.new.errors in
    let ensures = c.in-Err-write_made.ensures in
    rw (ensures.broken.0) (record {
      writes = inl (stream_stops _ _ c.lines.every c.lines.number (g.R.Source.state c.args.reader.now) (g.R.Source.state c.lines.reader)
          (g.R.Source.state c.next_made.new.reader) u v w a b d c.args.label.now.first c.in-Ok-Some.made
          c.lines.invariant.drawn (rw (c.in-Ok-Some.field-0-is) at c.in-Ok-Some.ensures.made) ensures.broken.2 ensures.written);
      read = grind (arith, c.in-Ok-Some.ensures.failure);
      write = grind (arith, ensures.broken.1);
    })
