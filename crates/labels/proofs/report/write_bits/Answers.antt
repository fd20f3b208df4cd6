-- The pieces make the line.
use Rattle.labels.specs.Stops.{bits_line}
use Rattle.labels.proofs.report.write_bits.Goals as goal

pub returns : goal.returns
unfolding bits_line
returns g c =
    rw (
      c.format.ensures.text,
      c.level_text.ensures,
      c.format-2.ensures.text,
      c.version_number.ensures,
      c.format-3.ensures.text,
      c.rest_text.ensures,
    ) at c.write_line.ensures
