-- A device is reported by its name.
use Rattle.labels.proofs.report.report_fault.Goals as goal

pub returns-in-Read-clause-reported : goal.returns-in-Read-clause-reported
returns-in-Read-clause-reported g c = rw (c.in-Read.is) c.report_device.ensures.reported

pub returns-in-Write-clause-reported : goal.returns-in-Write-clause-reported
returns-in-Write-clause-reported g c = rw (c.in-Write.is) c.report_device-in-Write.ensures.reported
