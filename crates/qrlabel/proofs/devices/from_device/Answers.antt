-- Memory ran out.
use Rattle.std.proofs.Common.{inr, refl}
use Rattle.qrlabel.proofs.devices.from_device.Goals as goal

pub returns-in-Err : goal.returns-in-Err
returns-in-Err g c = inr (record {
  status_is = c.report.ensures.status;
  untouched = refl;
  reports = rw (c.from.ensures) at c.report.ensures.reported;
})
