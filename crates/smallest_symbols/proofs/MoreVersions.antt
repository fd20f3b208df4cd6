-- One version more.
use Rattle.std.proofs.Common.{◌≡◌, Bool, false, ℕ, ◌+◌, inl, inr, subst, arith}
use Rattle.std.specs.Prelude.{◌↔◌, IsTrue}
use Rattle.std.proofs.lemmas.Bool.{cases_lt}
use Rattle.qrcode_base.specs.declared.types.EcLevel.{EcLevel}
use Rattle.smallest_symbols.specs.Holding.{HoldsBits, NoneHoldsBefore}

-- One version more that does not hold the bits.
pub holds_more : (bits : ℕ) (level : EcLevel) (first number : ℕ) (b : Bool) → NoneHoldsBefore bits level first number → IsTrue b ↔ HoldsBits bits number level →
    b ≡ false → NoneHoldsBefore bits level first (number + 1)
holds_more bits level first number b none test off n from below held = elim (cases_lt n number) [
  | inl early ↦ none n from early held
  | inr late ↦ (let same : n ≡ number = omega (arith, late, below) in
      let yes : IsTrue b = test.1 (subst (λ (k : ℕ). HoldsBits bits k level) same held) in absurd (cc))
]
