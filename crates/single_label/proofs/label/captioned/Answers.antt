-- The options have the text, and nothing else is new.
use Rattle.std.proofs.Common.{refl}
use Rattle.single_label.proofs.label.captioned.Goals as goal

pub returns : goal.returns
returns c =
    rw c.in-Some.is (
      record {
        format = refl;
        scale = refl;
        quiet = refl;
        module_um = refl;
        dpi_tenths = refl;
        inverted = refl;
        title = refl;
        at = refl;
        copies = refl;
        compressed = refl;
        feed = refl;
        cut = refl;
        colors = refl;
      },
      refl,
    )
