-- Data are parsed as their content wants it; more than 7089 bytes fit no version.
use mir.Syntax.{w16}
use Rattle.qrcode_bits.proofs.Prelude.{◌≡◌, ◌≤◌, ℕ, List, true, false, arith, common_steps, length, nat_abs, normal, subst, to_z-of_z, front_bits}
use Rattle.qrcode_bits.proofs.Prelude.{parsed_bytes, FitsNone}
use Rattle.std.specs.Prelude.{IfOk}
use Rattle.qrcode_bits.proofs.{Pairs.bytes_valid, Lengths.long_message, Contents.length-parsed, Contents.parsed-bytes, Contents.parsed-alone}
use Rattle.qrcode_bits.proofs.{Contents.map-parsed}
use Rattle.qrcode_bits.proofs.bits.fitting.fits_front.Goals as goal

pub returns-then-bytes-gt-LONGEST_DATA-clause-too_long : goal.returns-then-bytes-gt-LONGEST_DATA-clause-too_long
returns-then-bytes-gt-LONGEST_DATA-clause-too_long c _ =
    let content = c.args.front.now.content in
    let are = bytes_valid c.args.bytes.now (λ i. omega (arith, c.type_inv.bytes i)) in
    let few : nat_abs c.args.max_version ≤ 40 = grind (arith, c.requires.limit) in
    long_message (length (front_bits c.args.front.now)) (parsed_bytes content c.args.bytes.now) c.args.level (nat_abs c.args.max_version) few
    (parsed-bytes content c.args.bytes.now are) (omega (arith, length-parsed content c.args.bytes.now, c.if-bytes-gt-LONGEST_DATA.true))

pub returns-then-eq-clause-fits : goal.returns-then-eq-clause-fits
returns-then-eq-clause-fits c =
    subst (λ (s : List ℕ). IfOk c.fits_up_to.result (λ fits. fits ≡ true →
    FitsNone normal (length (front_bits c.args.front.now)) s c.args.level (nat_abs c.args.max_version) → ⊥))
    (parsed-alone c.args.front.now.content c.args.bytes.now (grind (arith, common_steps)))
    (rw (to_z-of_z w16 c.args.max_version c.ranges.max_version, c.size.ensures.size) at c.fits_up_to.ensures.fits)

pub returns-then-eq-clause-too_long : goal.returns-then-eq-clause-too_long
returns-then-eq-clause-too_long c =
    subst (λ (s : List ℕ). IfOk c.fits_up_to.result (λ fits. fits ≡ false →
    FitsNone normal (length (front_bits c.args.front.now)) s c.args.level (nat_abs c.args.max_version)))
    (parsed-alone c.args.front.now.content c.args.bytes.now (grind (arith, common_steps)))
    (rw (to_z-of_z w16 c.args.max_version c.ranges.max_version, c.size.ensures.size) at c.fits_up_to.ensures.too_long)

pub returns-clause-fits : goal.returns-clause-fits
returns-clause-fits c =
    subst (λ (s : List ℕ). IfOk c.fits_up_to-2.result (λ fits. fits ≡ true →
    FitsNone normal (length (front_bits c.args.front.now)) s c.args.level (nat_abs c.args.max_version) → ⊥))
    (grind (arith, common_steps, map-parsed))
    (rw (to_z-of_z w16 c.args.max_version c.ranges.max_version, c.size-2.ensures.size) at c.fits_up_to-2.ensures.fits)

pub returns-clause-too_long : goal.returns-clause-too_long
returns-clause-too_long c =
    subst (λ (s : List ℕ). IfOk c.fits_up_to-2.result (λ fits. fits ≡ false →
    FitsNone normal (length (front_bits c.args.front.now)) s c.args.level (nat_abs c.args.max_version)))
    (grind (arith, common_steps, map-parsed))
    (rw (to_z-of_z w16 c.args.max_version c.ranges.max_version, c.size-2.ensures.size) at c.fits_up_to-2.ensures.too_long)
