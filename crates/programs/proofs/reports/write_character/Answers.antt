-- The pieces make the text of the error.
use Rattle.std.proofs.Common.{append-nil}
use Rattle.std.specs.Prelude.{decimal}
use Rattle.programs.proofs.reports.write_character.Goals as goal

pub returns : goal.returns
returns g c =
    rw (c.hex_digit-high.ensures, c.hex_digit-low.ensures, c.format-position.ensures.text, append-nil (decimal c.args.position)) at c.write_line.ensures
