-- The errors of an encoding up to a greatest version are those within the caller's limits.
use Rattle.qrcode_core.proofs.Prelude.{◌≡◌, ℕ, ℤ, ◌≤◌, nat_abs, arith, inl, inr, List, length, Color, EcLevel, Normal, QrError, DataTooLong}
use Rattle.qrcode_core.proofs.Prelude.{InvalidResourceLimits, OutOfMemory, IsNormalNumber, IsBudget, IsBestWithin, IsTooLongWithin, IsLimitedRefusal}
use Rattle.qrcode_core.proofs.Prelude.{IsBestSymbol}
use Rattle.qrcode_bits.specs.Push.{IsEncodingRefused}
use Rattle.qrcode_core.specs.declared.limits.ResourceLimits.{ResourceLimits}

-- the number of a limit is at most 40
pub few_versions : (z : ℤ) → IsNormalNumber z → nat_abs z ≤ 40
few_versions z h = grind arith

pub limited_refusal : (limits : ResourceLimits) (bytes : List ℕ) (level : EcLevel) (n : ℤ) → limits.max_version ≡ Normal n → IsBudget limits →
    length bytes ≤ limits.max_data_length → (e : QrError) → IsEncodingRefused bytes level n e → IsLimitedRefusal limits bytes level e
limited_refusal limits bytes level n most budget short InvalidResourceLimits why = absurd (why (rw most at budget.0))
limited_refusal limits bytes level n most budget short DataTooLong why = (budget, inr (rw most why.1))
limited_refusal limits bytes level n most budget short OutOfMemory why = (budget, short, why.1)
limited_refusal limits bytes level n most budget short other why = absurd why.1

pub best_within : (limits : ResourceLimits) (bytes : List ℕ) (level : EcLevel) (n : ℤ) → limits.max_version ≡ Normal n →
    (grid : List Color) (best : IsBestSymbol bytes level grid) → best.number ≤ nat_abs n → IsBestWithin limits bytes level grid
best_within limits bytes level n most grid best up = record { best = best; up_to = rw most up }

-- What is within the limits is not too long for them.
pub fits_within : (limits : ResourceLimits) (bytes : List ℕ) (level : EcLevel) (grid : List Color) → length bytes ≤ limits.max_data_length →
    IsBestWithin limits bytes level grid → IsTooLongWithin limits bytes level → ⊥
fits_within limits bytes level grid short found (inl long) = absurd (omega (arith, long, short))
fits_within limits bytes level grid short found (inr none) = none found.best.number found.up_to found.best.plan found.best.fits
