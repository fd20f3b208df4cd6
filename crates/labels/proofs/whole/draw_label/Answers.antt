-- There is no label of what was read.
use Rattle.std.proofs.Common.{arith, rules}
use Rattle.labels.specs.Runs.{one_of}
use Rattle.single_label.proofs.StopLemmas.{no_device}
use Rattle.labels.proofs.OutcomeLemmas.{writes_none, writes_all, writes_some}
use Rattle.labels.proofs.whole.draw_label.Goals as goal

pub returns-in-Err-clause-outcome : goal.returns-in-Err-clause-outcome
returns-in-Err-clause-outcome g c =
    writes_none (one_of c.args.label.now c.args.options.now) (g.R.Source.state c.args.reader.now) (g.R.Source.state c.read_up_to.new.reader)
    (g.W.Sink.state c.args.writer.now) c.in_ok-bytes.bytes.items c.in-Err.stop (no_device c.args.label.now c.in_ok-bytes.bytes.items)
    (rw (c.most_bytes.ensures.is) at c.in_ok-bytes.ensures.read) (rw (c.deref.ensures.value) at c.in-Err.ensures.refusal) (grind (arith, c.in_ok-bytes.ensures.failure)) (search rules)

pub returns-in-Ok-write_all-clause-outcome : goal.returns-in-Ok-write_all-clause-outcome
returns-in-Ok-write_all-clause-outcome g c =
    writes_all (one_of c.args.label.now c.args.options.now) (g.R.Source.state c.args.reader.now) (g.R.Source.state c.read_up_to.new.reader)
    (g.W.Sink.state c.args.writer.now) (g.W.Sink.state c.write_all.new.writer) c.in_ok-bytes.bytes.items c.in-Ok.both.drawing.items c.in-Ok.both.details.items
    (rw (c.most_bytes.ensures.is) at c.in_ok-bytes.ensures.read) (rw (c.deref.ensures.value) at c.in-Ok.ensures.limit) (rw (c.deref.ensures.value) at c.in-Ok.ensures.drawn)
    (rw (c.deref.ensures.value) at c.in-Ok.ensures.beside) (rw (c.deref-2.ensures.value) at c.write_all.ensures.writes) c.in-Ok-write_all.ensures.flushed
    (grind (arith, c.in_ok-bytes.ensures.failure)) c.in-Ok-write_all.ensures.failure

pub returns-clause-outcome : goal.returns-clause-outcome
returns-clause-outcome g c =
    rw (c.from.ensures, c.in-Err-write_all.ensures.fault)
    (writes_some (one_of c.args.label.now c.args.options.now) (g.R.Source.state c.args.reader.now) (g.R.Source.state c.read_up_to.new.reader)
    (g.W.Sink.state c.args.writer.now) (g.W.Sink.state c.write_all.new.writer) c.in_ok-bytes.bytes.items c.in-Ok.both.drawing.items (rw (c.most_bytes.ensures.is) at c.in_ok-bytes.ensures.read)
    (rw (c.deref.ensures.value) at c.in-Ok.ensures.limit) (rw (c.deref.ensures.value) at c.in-Ok.ensures.drawn) (rw (c.deref-2.ensures.value) at c.write_all.ensures.writes)
    (grind (arith, c.in_ok-bytes.ensures.failure)) c.in-Err-write_all.ensures.failure)
