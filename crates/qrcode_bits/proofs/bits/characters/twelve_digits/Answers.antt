-- The bits of both halves.
use Rattle.qrcode_bits.proofs.Prelude.{arith, refl, ◌++◌, ◌≡◌, ℕ, List, append_assoc, sym, ◌∙◌, ap}
use Rattle.qrcode_bits.proofs.Digits.{digits_join}
use Rattle.qrcode_bits.proofs.bits.characters.twelve_digits.Goals as goal

pub returns-clause-bits : goal.returns-clause-bits
returns-clause-bits c =
    let a = c.split_at.result.0.now in
    let b = c.split_at-2.result.0.now in
    let rest = c.split_at-2.result.1.now in
    let high = digits_join (a ++ b) a b 10 10 _ _ refl (omega (arith, c.split_at.ensures.front_len)) c.three_digits-2.ensures.small
    c.three_digits.ensures.bits c.three_digits-2.ensures.bits in
    let low = digits_join rest _ _ 10 10 _ _ c.split_at-3.ensures.by_index.0 (omega (arith, c.split_at-3.ensures.front_len)) c.three_digits-4.ensures.small
    c.three_digits-3.ensures.bits c.three_digits-4.ensures.bits in
    let whole : c.args.digits.now ≡ (a ++ b) ++ rest = c.split_at.ensures.by_index.0
    ∙ (ap (λ (z : List ℕ). a ++ z) c.split_at-2.ensures.by_index.0 ∙ sym (append_assoc a b rest)) in
    digits_join c.args.digits.now (a ++ b) rest 20 20 _ _ whole (grind (arith, c.split_at.ensures.front_len, c.split_at-2.ensures.front_len))
    (omega (arith, c.three_digits-3.ensures.small, c.three_digits-4.ensures.small)) high low
