-- The pieces make the line.
use Rattle.labels.specs.Sizes.{size_line}
use Rattle.labels.proofs.sizes.write_size.Goals as goal

pub returns : goal.returns
unfolding size_line
returns g c =
    rw (
      c.format.ensures.text,
      c.format-2.ensures.text,
      c.format-3.ensures.text,
      c.format-4.ensures.text,
      c.format-5.ensures.text,
      c.format-6.ensures.text,
      c.format-7.ensures.text,
      c.format-8.ensures.text,
    ) at c.write_line.ensures
