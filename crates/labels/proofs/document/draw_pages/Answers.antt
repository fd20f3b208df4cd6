-- The next page was written, or not, or the line is left out, or there is none.
use Rattle.std.proofs.Common.{◌&&◌, ◌∙◌, sym, arith, rules, ap}
use Rattle.std.specs.Option.{option_copied}
use Rattle.labels.specs.Stop.{made_as}
use Rattle.labels.proofs.LabelLemmas.{DrawsBefore-none, DrawsBefore-more}
use Rattle.labels.proofs.PageLemmas.{pages_none, so_far_place}
use Rattle.labels.proofs.PageOutcomes.{all_written, alone, end_not_written, is_drawn, made_step, made_stops, memory_out_at, no_label, nothing_yet}
use Rattle.labels.proofs.document.draw_pages.Goals as goal

pub lines-init : goal.lines-init
lines-init g c =
    let w = g.W.Sink.state c.args.writer.now in
    let e = g.E.Sink.state c.args.errors.now in
    let title = option_copied c.args.options.now.title in
    record {
      drawn = DrawsBefore-none c.args.label.now c.args.options.now (g.R.Source.state c.args.reader.now).left
          (so_far_place title _ _ w w e e c.args.label.now.first) (pages_none title _ _ w e c.args.label.now.first c.in-Ok.ensures);
      reader_sound = search rules;
      writer_sound = search rules;
    }

pub returns-in_default : goal.returns-in_default
returns-in_default g c =
    nothing_yet c.args.label.now c.args.options.now (g.R.Source.state c.args.reader.now) (option_copied c.args.options.now.title)
    (g.W.Sink.state c.args.writer.now) (g.E.Sink.state c.args.errors.now) (search rules) (search rules)

pub returns-in-Ok-write_end : goal.returns-in-Ok-write_end
returns-in-Ok-write_end g c =
    let e = c.in-Ok-write_end.ensures in
    all_written _ _ c.lines.every c.lines.number (g.R.Source.state c.args.reader.now) (g.R.Source.state c.lines.reader)
    (g.R.Source.state c.next_made.new.reader) _ c.lines.begun.pages c.lines.begun.waiting.items (g.W.Sink.state c.args.writer.now)
    (g.W.Sink.state c.lines.writer) (g.W.Sink.state c.write_end.new.writer) (g.E.Sink.state c.args.errors.now) (g.E.Sink.state c.lines.errors)
    c.lines.invariant.drawn (rw (c.in-Ok-None.field-0-is) at c.in-Ok-None.ensures.made) e.none e.written e.flushed e.sound (search rules)

pub returns-in-Err-write_end : goal.returns-in-Err-write_end
returns-in-Err-write_end g c =
    end_not_written _ _ c.lines.every c.lines.number (g.R.Source.state c.args.reader.now) (g.R.Source.state c.lines.reader)
    (g.R.Source.state c.next_made.new.reader) _ c.lines.begun.pages c.lines.begun.waiting.items (g.W.Sink.state c.args.writer.now)
    (g.W.Sink.state c.lines.writer) (g.W.Sink.state c.write_end.new.writer) (g.E.Sink.state c.args.errors.now) (g.E.Sink.state c.lines.errors)
    c.in-Err-write_end.stop c.lines.invariant.drawn (rw (c.in-Ok-None.field-0-is) at c.in-Ok-None.ensures.made) c.lines.invariant.writer_sound
    (search rules) c.in-Err-write_end.ensures.broken

pub returns-in-Err : goal.returns-in-Err
returns-in-Err g c =
    no_label _ _ c.lines.every c.lines.number (g.R.Source.state c.args.reader.now) (g.R.Source.state c.lines.reader)
    (g.R.Source.state c.next_made.new.reader) _ c.lines.begun.pages c.lines.begun.waiting.items (g.W.Sink.state c.args.writer.now)
    (g.W.Sink.state c.lines.writer) (g.E.Sink.state c.args.errors.now) (g.E.Sink.state c.lines.errors)
    c.in-Err.stop c.lines.invariant.drawn c.in-Err.ensures.refusal (grind (arith, c.in-Err.ensures.failure)) c.lines.invariant.writer_sound

pub lines-preserved : goal.lines-preserved
lines-preserved g c =
    let u = g.W.Sink.state c.args.writer.now in
    let v = g.W.Sink.state c.lines.writer in
    let w = g.W.Sink.state c.write_page.new.writer in
    let a = g.E.Sink.state c.args.errors.now in
    let b = g.E.Sink.state c.lines.errors in
    let d = g.E.Sink.state c.write_page.new.errors in
    let n = c.args.label.now.first in
    let made = c.in-Ok-Some.made in
    let ensures = c.in-Ok-write_page.ensures in
    let title = option_copied c.args.options.now.title in
    let p = c.lines.begun.pages in
    let q = c.write_page.new.begun.pages in
    let waiting = c.lines.begun.waiting.items in
    let rest = c.write_page.new.begun.waiting.items in
    record {
      drawn = DrawsBefore-more _ _ c.lines.every _ c.lines.number _ _ _ (so_far_place title p waiting u v a b n) (so_far_place title q rest u w a d n)
          (made_as (alone c.args.label.now c.args.options.now) made)
          c.lines.invariant.drawn (rw (c.in-Ok-Some.field-0-is) at c.in-Ok-Some.ensures.made)
          (ap (λ e. c.lines.every && e) (ensures.drawn ∙ sym (is_drawn c.args.label.now c.args.options.now made)))
          (made_step c.args.label.now c.args.options.now p q waiting rest u v w a b d c.lines.number n made ensures.page ensures.sound ensures.same
          ensures.left_out);
      reader_sound = search rules;
      writer_sound = ensures.sound;
    }

pub returns-in-Err-write_page : goal.returns-in-Err-write_page
returns-in-Err-write_page g c =
    let ensures = c.in-Err-write_page.ensures in
    rw (ensures.broken.0) (made_stops _ _ c.lines.every c.lines.number (g.R.Source.state c.args.reader.now) (g.R.Source.state c.lines.reader)
    (g.R.Source.state c.next_made.new.reader) c.lines.begun.pages c.lines.begun.waiting.items (g.W.Sink.state c.args.writer.now)
    (g.W.Sink.state c.lines.writer) (g.W.Sink.state c.write_page.new.writer) (g.E.Sink.state c.args.errors.now) (g.E.Sink.state c.lines.errors)
    (g.E.Sink.state c.write_page.new.errors) c.in-Ok-Some.made _ c.lines.invariant.drawn (rw (c.in-Ok-Some.field-0-is) at c.in-Ok-Some.ensures.made)
    c.lines.invariant.writer_sound (search rules) ensures.broken.1 ensures.same ensures.broken.2)

pub returns : goal.returns
returns g c =
    memory_out_at _ _ c.lines.every _ c.lines.number (g.R.Source.state c.args.reader.now) (g.R.Source.state c.lines.reader)
    (g.R.Source.state c.lines.reader) _ c.lines.begun.pages c.lines.begun.waiting.items (g.W.Sink.state c.args.writer.now)
    (g.W.Sink.state c.lines.writer) (g.E.Sink.state c.args.errors.now) (g.E.Sink.state c.lines.errors)
    (search rules) c.lines.invariant.drawn c.lines.invariant.writer_sound c.lines.invariant.reader_sound
