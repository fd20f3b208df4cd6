-- The pieces make the line.
use Rattle.labels.specs.Refusals.{refusal_line}
use Rattle.labels.proofs.refusal.write_value.Goals as goal

pub returns : goal.returns
unfolding refusal_line
returns g c =
    rw (
      c.opening_text.ensures,
      c.format.ensures.text,
      c.format-2.ensures.text,
      c.saturating_add.ensures,
      c.format-3.ensures.text,
      c.saturating_add-2.ensures,
      c.reason_text.ensures,
      c.would_be_text.ensures,
      c.letter_text.ensures,
      c.letter_text-2.ensures,
      c.right_bytes-first.ensures,
    ) at c.write_line.ensures
