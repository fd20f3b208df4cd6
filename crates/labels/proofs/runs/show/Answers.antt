-- Writing failed, and this is reported.
use Rattle.std.proofs.Common.{arith}
use Rattle.labels.proofs.runs.show.Goals as goal

pub returns-in-Err : goal.returns-in-Err
returns-in-Err g c = record {
  writes = rw (c.as_bytes.ensures.value) at c.in-Err.ensures.writes;
  flushed = λ sound. absurd (grind (arith, sound, c.in-Err.ensures.failure));
  status_is = rw (c.in-Err.ensures.failure) (rw (c.reason.ensures) at c.report_device.ensures.status);
  reports = rw (c.in-Err.ensures.failure) (rw (c.reason.ensures) at c.report_device.ensures.reported);
}
