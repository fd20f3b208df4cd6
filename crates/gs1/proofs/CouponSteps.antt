-- The first fault of a coupon code, at the first digit that is left.
use Rattle.std.proofs.Common.{◌≡◌, ℕ, ◌+◌, ◌<◌, Bool, List, [], ◌∷◌, length, arith, sym, ap, ◌∙◌}
use Rattle.std.specs.Prelude.{Option, Some, ◌-◌}
use Rattle.std.specs.Option.{option_or}
use Rattle.gs1.specs.Coupons.{step_fault, fields_after, left_after, coupon_fault}
use Rattle.gs1.specs.declared.coupons.Field.{Field}
use Rattle.gs1.specs.declared.reason.Fault.{Fault}

-- The first digit has a fault.
pub coupon_here : (is_coupon : Bool) (fields : List Field) (left place : ℕ) (rest : List ℕ) (whole : Option Fault) (fault : Fault) →
    0 < length rest → step_fault is_coupon fields left place rest ≡ Some fault →
    coupon_fault is_coupon fields left place rest ≡ whole → Some fault ≡ whole
coupon_here is_coupon fields left place [] whole fault some here e = absurd (omega arith)
coupon_here is_coupon fields left place (c ∷ rest) whole fault some here e =
    sym (ap (λ o. option_or o (coupon_fault is_coupon (fields_after fields left (c - 0x30)) (left_after fields left (c - 0x30))
    (place + 1) rest)) here) ∙ e
