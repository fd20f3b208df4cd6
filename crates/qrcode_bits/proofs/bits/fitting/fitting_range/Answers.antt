-- Data are parsed as their content wants it.
use mir.Syntax.{w16}
use Rattle.qrcode_bits.proofs.Prelude.{◌≡◌, ◌<◌, ◌≤◌, ℕ, List, arith, common_steps, length, nat_abs, normal, subst, take, to_z-of_z, front_bits, FitsNone}
use Rattle.qrcode_bits.proofs.Prelude.{IsUnitEnd, parsed_bytes}
use Rattle.std.specs.Prelude.{IfOk}
use Rattle.qrcode_bits.proofs.{Contents.parsed-alone, Contents.map-parsed}
use Rattle.qrcode_bits.proofs.bits.fitting.fitting_range.Goals as goal

pub returns-then-eq-clause-fits : goal.returns-then-eq-clause-fits
returns-then-eq-clause-fits c =
    subst (λ (s : List ℕ). IfOk c.range_up_to.result (λ range. (place : ℕ) → IsUnitEnd s place → place ≤ range.0 →
    FitsNone normal (length (front_bits c.args.front.now)) (take place s) c.args.level (nat_abs c.args.max_version) → ⊥))
    (parsed-alone c.args.front.now.content c.args.bytes.now (grind (arith, common_steps)))
    (rw (to_z-of_z w16 c.args.max_version c.ranges.max_version, c.size.ensures.size) at c.range_up_to.ensures.fits)

pub returns-then-eq-clause-too_long : goal.returns-then-eq-clause-too_long
returns-then-eq-clause-too_long c =
    subst (λ (s : List ℕ). IfOk c.range_up_to.result (λ range. (place : ℕ) → IsUnitEnd s place → range.1 ≤ place →
    FitsNone normal (length (front_bits c.args.front.now)) (take place s) c.args.level (nat_abs c.args.max_version)))
    (parsed-alone c.args.front.now.content c.args.bytes.now (grind (arith, common_steps)))
    (rw (to_z-of_z w16 c.args.max_version c.ranges.max_version, c.size.ensures.size) at c.range_up_to.ensures.too_long)

pub returns-clause-fits : goal.returns-clause-fits
returns-clause-fits c =
    let same : c.as_slice.result.now ≡ parsed_bytes c.args.front.now.content c.args.bytes.now = grind (arith, common_steps, map-parsed) in
    subst (λ (s : List ℕ). IfOk c.range_up_to-2.result (λ range. (place : ℕ) → IsUnitEnd s place → place ≤ range.0 →
    FitsNone normal (length (front_bits c.args.front.now)) (take place s) c.args.level (nat_abs c.args.max_version) → ⊥))
    same
    (rw (to_z-of_z w16 c.args.max_version c.ranges.max_version, c.size-2.ensures.size) at c.range_up_to-2.ensures.fits)

pub returns-clause-too_long : goal.returns-clause-too_long
returns-clause-too_long c =
    let same : c.as_slice.result.now ≡ parsed_bytes c.args.front.now.content c.args.bytes.now = grind (arith, common_steps, map-parsed) in
    subst (λ (s : List ℕ). IfOk c.range_up_to-2.result (λ range. (place : ℕ) → IsUnitEnd s place → range.1 ≤ place →
    FitsNone normal (length (front_bits c.args.front.now)) (take place s) c.args.level (nat_abs c.args.max_version)))
    same
    (rw (to_z-of_z w16 c.args.max_version c.ranges.max_version, c.size-2.ensures.size) at c.range_up_to-2.ensures.too_long)

pub returns-then-eq-clause-close : goal.returns-then-eq-clause-close
returns-then-eq-clause-close c =
    subst (λ (s : List ℕ). IfOk c.range_up_to.result (λ range. (place : ℕ) → IsUnitEnd s place → range.0 < place → place < range.1 → ⊥))
    (parsed-alone c.args.front.now.content c.args.bytes.now (grind (arith, common_steps))) c.range_up_to.ensures.close

pub returns-clause-close : goal.returns-clause-close
returns-clause-close c =
    let same : c.as_slice.result.now ≡ parsed_bytes c.args.front.now.content c.args.bytes.now = grind (arith, common_steps, map-parsed) in
    subst (λ (s : List ℕ). IfOk c.range_up_to-2.result (λ range. (place : ℕ) → IsUnitEnd s place → range.0 < place → place < range.1 → ⊥))
    same c.range_up_to-2.ensures.close
