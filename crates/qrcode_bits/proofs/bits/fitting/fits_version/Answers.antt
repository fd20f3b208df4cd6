-- The chosen plan decides, in the version of the number.
use Rattle.qrcode_bits.proofs.Prelude.{sym, ◌∙◌, subst, FitsNot, Version}
use Rattle.qrcode_bits.proofs.{Classes.normal_is, Fitting.at_none}
use Rattle.qrcode_bits.proofs.bits.fitting.fits_version.Goals as goal

pub returns-clause-unfit : goal.returns-clause-unfit
returns-clause-unfit c e =
    subst (λ (v : Version). FitsNot c.args.ahead c.args.bytes.now v c.args.level) (normal_is c.args.number c.requires.to_forty)
    (at_none _ _ (sym c.is_some.ensures ∙ e) c.in_ok-found.ensures.none)
