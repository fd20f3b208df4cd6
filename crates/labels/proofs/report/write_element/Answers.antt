-- The pieces make the line.
use Rattle.std.proofs.Common.{sym}
use Rattle.labels.specs.Stops.{element_line}
use Rattle.labels.proofs.report.write_element.Goals as goal

pub returns-in-Some : goal.returns-in-Some
unfolding element_line
returns-in-Some g c =
    rw (sym c.in-Some.ensures) (rw (
      c.unless_zero.ensures,
      c.digit_text.ensures,
      c.digit_text-in-Some.ensures,
      c.digit_text-in-Some-2.ensures,
      c.digit_text-in-Some-3.ensures,
      c.unless_zero-in-Some.ensures,
      c.unless_zero-in-Some-2.ensures,
      c.digit_text-in-Some-4.ensures,
      c.format-number.ensures.text,
      c.saturating_add.ensures,
      c.element_text-text.ensures,
    ) at c.write_line.ensures)
