-- The pieces make the text of the error.
use Rattle.std.proofs.Common.{append-nil}
use Rattle.std.specs.Prelude.{decimal}
use Rattle.programs.proofs.reports.write_lengths.Goals as goal

pub returns : goal.returns
returns g c = rw (c.format.ensures.text, c.format-2.ensures.text, append-nil (decimal c.args.actual)) at c.write_line.ensures
