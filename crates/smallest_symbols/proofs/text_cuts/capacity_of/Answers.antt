-- Each Normal version has each level.
use Rattle.std.proofs.Common.{◌≡◌, Some, subst, sym}
use Rattle.qrcode_base.specs.Symbols.{capacity}
use Rattle.qrcode_base.specs.declared.types.Version.{Version}
use Rattle.qrcode_bits.proofs.{Choices.capacity-at, Classes.known_limit, Classes.normal_is}
use Rattle.smallest_symbols.proofs.Slices.{has_limit}
use Rattle.smallest_symbols.proofs.text_cuts.capacity_of.Goals as goal

pub returns-in-Ok : goal.returns-in-Ok
returns-in-Ok c =
    subst (λ (v : Version). capacity v c.args.level ≡ Some c.in-Ok.bits) (normal_is c.args.number c.requires.last)
    (known_limit _ c.in-Ok.bits _ c.in-Ok.ensures.is)

pub returns-in-Err : goal.returns-in-Err
returns-in-Err c =
    let w = capacity-at c.args.level c.args.number c.requires.some c.requires.last in
    absurd (has_limit _ w.0 _ _ (subst (λ (v : Version). capacity v c.args.level ≡ Some w.0) (sym (normal_is c.args.number c.requires.last)) w.1)
    c.in-Err.ensures.is)
