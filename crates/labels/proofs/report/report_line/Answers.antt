-- The beginning of the line, and then the rest.
use Rattle.std.proofs.Common.{codes, decimal, rules}
use Rattle.programs.specs.Devices.{output}
use Rattle.programs.proofs.DeviceLemmas.{Writes-stopped, Writes-next}
use Rattle.labels.specs.{Devices.devices_of, Stops.stop_report}
use Rattle.labels.proofs.report.report_line.Goals as goal

pub returns-then-is_err-clause-reported : goal.returns-then-is_err-clause-reported
returns-then-is_err-clause-reported g c =
    rw (c.requires.said) (Writes-stopped (output (g.E.Sink.state c.args.errors.now) (g.E.Sink.state c.push_all.new.writer)) (codes "qrlabel: line ")
    (stop_report (decimal c.args.at.number) (devices_of c.args.devices.now) c.args.at.stop) (search rules) c.push_all.ensures.writes)

pub returns-clause-reported : goal.returns-clause-reported
returns-clause-reported g c =
    rw (c.requires.said) (Writes-next (g.E.Sink.state c.args.errors.now) (g.E.Sink.state c.push_all.new.writer) (g.E.Sink.state c.report_stop.new.errors)
    (codes "qrlabel: line ") (stop_report (decimal c.args.at.number) (devices_of c.args.devices.now) c.args.at.stop)
    (search rules) c.push_all.ensures.writes (rw (c.format.ensures.text) at c.report_stop.ensures.reported))
