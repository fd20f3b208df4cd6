-- The pieces make the text of the error.
use Rattle.std.proofs.Common.{append-nil}
use Rattle.std.specs.Prelude.{decimal}
use Rattle.programs.proofs.reports.write_sizes.Goals as goal

pub returns : goal.returns
returns g c =
    rw (c.format.ensures.text, c.format-2.ensures.text, c.format-3.ensures.text, c.format-4.ensures.text, append-nil (decimal c.args.most.1))
    at c.write_line.ensures
