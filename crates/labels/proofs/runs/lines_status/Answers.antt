-- The last line is written, if the sink has not failed.
use Rattle.std.proofs.Common.{ap, refl}
use Rattle.labels.proofs.LabelLemmas.{said_at_end}
use Rattle.labels.proofs.runs.lines_status.Goals as goal

pub returns-in-Err-clause-reported : goal.returns-in-Err-clause-reported
returns-in-Err-clause-reported g c =
    let e = g.E.Sink.state in
    rw (c.in-Err.is) (said_at_end _ (e c.args.errors.now) (e c.report_end.new.errors) _ refl
    (λ failed. ap e (c.report_end.ensures.silent failed)) c.report_end.ensures.reported)
