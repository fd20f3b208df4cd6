-- The label is drawn, or a setting is wrong.
use Rattle.std.proofs.Common.{inl, inr, refl}
use Rattle.programs.specs.Devices.{output}
use Rattle.labels.proofs.runs.run_label.Goals as goal

pub returns-in-Ok : goal.returns-in-Ok
returns-in-Ok g c =
    let e = g.E.Sink.state in
    inl (record {
      options = c.in-Ok.options;
      valid = c.in-Ok.ensures.valid;
      made = c.in-Ok.ensures.made;
      said = output (e c.args.errors.now) (e c.serve-status.new.errors);
      begins = refl;
      sound = c.last_report.ensures.failed;
      serves = c.serve-status.ensures.served;
      reports = c.last_report.ensures.reported;
    })

pub returns-in-Err : goal.returns-in-Err
returns-in-Err g c =
    inr (
      c.in-Err.setting,
      c.in-Err.ensures.refusal,
      record {
        status_is = c.wrong_setting.ensures.status;
        untouched = (refl, refl, refl);
        reports = c.wrong_setting.ensures.reported;
      },
    )
