use Rattle.std.proofs.Common.{◌≡◌, ◌+◌, length}
use Rattle.gs1.specs.Coupons.{first_fields, coupon_fault}
use Rattle.gs1.proofs.coupons.check_coupon.Given as goal

abbrev pub invariant-loop-rest : goal.invariant-loop-rest
invariant-loop-rest l =
    (coupon_fault l.is_coupon l.fields l.left l.at l.rest ≡ coupon_fault l.is_coupon (first_fields l.is_coupon) 0 l.place l.piece)
    × (l.at + length l.rest ≡ l.place + length l.piece)

abbrev pub decreases-loop-rest : goal.decreases-loop-rest
decreases-loop-rest l = length l.rest
