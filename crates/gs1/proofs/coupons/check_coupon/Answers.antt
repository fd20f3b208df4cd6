use Rattle.std.proofs.Common.{sym}
use Rattle.std.proofs.lemmas.Result.{err_from_is_err_and}
use Rattle.gs1_base.proofs.Lists.{some_left}
use Rattle.gs1.proofs.CouponSteps.{coupon_here}
use Rattle.gs1.proofs.coupons.check_coupon.Goals as goal

pub returns-in_err-check_step : goal.returns-in_err-check_step
returns-in_err-check_step c =
    let p = err_from_is_err_and c.from_residual.result c.from_residual.ensures.1 in
    rw (p.1, p.2) (coupon_here _ _ _ _ _ _ _ (some_left _ _ c.is_empty.ensures c.loop-rest-test.true)
    (sym c.in_err-check_step.ensures) c.loop-rest.invariant.0)
