use Rattle.std.proofs.Common.{refl, arith}
use Rattle.gs1_base.proofs.Hosts.{too_great}
use Rattle.gs1_base.proofs.domain.is_port_number.Goals as goal

pub returns-then-number-gt65535 : goal.returns-then-number-gt65535
returns-then-number-gt65535 c =
    too_great c.loop-digit.number _ c.loop-digit.digit-index c.args.port.now _ c.loop-digit-test.true refl
    (omega (arith, c.saturating_sub.ensures, c.from.ensures, c.if-number-gt65535.true)) c.loop-digit.invariant.0
