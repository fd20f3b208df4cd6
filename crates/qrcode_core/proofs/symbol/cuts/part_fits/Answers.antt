-- The front has 20 bits and those of the content.
use mir.Syntax.{w16}
use Rattle.qrcode_core.proofs.Prelude.{to_z-of_z, IfOk-weaker, nat_abs}
use Rattle.qrcode_core.proofs.BestCuts.{none_of_front, none_of_part}
use Rattle.qrcode_core.proofs.symbol.cuts.part_fits.Goals as goal

pub returns-clause-fits : goal.returns-clause-fits
returns-clause-fits c =
    let front = c.part_front-front.ensures in
    IfOk-weaker c.fits_front.result _ _ (λ fits h e none. h e (none_of_front _ _ _ _ _ front (nat_abs c.args.max_version) none))
    (rw (to_z-of_z w16 c.args.max_version c.ranges.max_version) at c.fits_front.ensures.fits)

pub returns-clause-too_long : goal.returns-clause-too_long
returns-clause-too_long c =
    let front = c.part_front-front.ensures in
    IfOk-weaker c.fits_front.result _ _ (λ fits h e. none_of_part _ _ _ _ _ front (nat_abs c.args.max_version) (h e))
    (rw (to_z-of_z w16 c.args.max_version c.ranges.max_version) at c.fits_front.ensures.too_long)
