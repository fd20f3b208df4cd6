-- The pieces make the text of the error.
use Rattle.std.proofs.Common.{append-nil}
use Rattle.programs.proofs.reports.write_number.Goals as goal

pub returns : goal.returns
returns g c = rw (c.format.ensures.text, append-nil c.args.after.now) at c.write_line.ensures
