-- The front has 20 bits and those of the content.
use mir.Syntax.{w16}
use Rattle.qrcode_core.proofs.Prelude.{to_z-of_z}
use Rattle.qrcode_bits.specs.Frame.{header_of}
use Rattle.qrcode_core.proofs.NoneBetter.{front-long}
use Rattle.qrcode_core.proofs.symbol.cuts.part_range.Goals as goal

pub returns-clause-fits : goal.returns-clause-fits
returns-clause-fits c =
    rw (to_z-of_z w16 c.args.max_version c.ranges.max_version, c.part_front-front.ensures, front-long (header_of 1 2 0) c.args.content)
    at c.fitting_range.ensures.fits

pub returns-clause-too_long : goal.returns-clause-too_long
returns-clause-too_long c =
    rw (to_z-of_z w16 c.args.max_version c.ranges.max_version, c.part_front-front.ensures, front-long (header_of 1 2 0) c.args.content)
    at c.fitting_range.ensures.too_long

pub returns-clause-close : goal.returns-clause-close
returns-clause-close c = rw c.part_front-front.ensures at c.fitting_range.ensures.close
