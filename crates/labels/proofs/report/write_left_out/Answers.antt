-- The beginning of the line, and then the rest.
use Rattle.std.proofs.Common.{codes, decimal, rules}
use Rattle.programs.specs.Devices.{output}
use Rattle.programs.proofs.DeviceLemmas.{Writes-stopped, Writes-next}
use Rattle.labels.specs.Stops.{stop_line}
use Rattle.labels.proofs.report.write_left_out.Goals as goal

pub returns-then-is_err : goal.returns-then-is_err
returns-then-is_err g c =
    Writes-stopped (output (g.E.Sink.state c.args.errors.now) (g.E.Sink.state c.push_all.new.writer)) (codes "qrlabel: line ")
    (stop_line (decimal c.args.at.number) c.args.at.stop) (search rules) c.push_all.ensures.writes

pub returns : goal.returns
returns g c =
    Writes-next (g.E.Sink.state c.args.errors.now) (g.E.Sink.state c.push_all.new.writer) (g.E.Sink.state c.write_stop.new.errors) (codes "qrlabel: line ")
    (stop_line (decimal c.args.at.number) c.args.at.stop) (search rules) c.push_all.ensures.writes
    (rw (c.format.ensures.text) at c.write_stop.ensures)
