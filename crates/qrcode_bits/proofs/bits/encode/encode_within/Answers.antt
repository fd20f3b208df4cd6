-- The numbers are a range of versions.
use Rattle.qrcode_bits.proofs.Prelude.{◌≡◌, ◌≤◌, ℤ, ap, arith, nat_abs, ints, to_z-of_z, IfErr-weaker}
use mir.Val.{to_z, of_z}
use mir.Syntax.{w16}
use Rattle.qrcode_bits.proofs.{Classes.refused_range, Classes.limit_of}
use Rattle.qrcode_bits.proofs.bits.encode.encode_within.Goals as goal

pub returns-clause-err : goal.returns-clause-err
returns-clause-err c =
    let least : to_z w16 (of_z w16 c.args.min_version) ≡ c.args.min_version = search (arith, ints, to_z-of_z) in
    let most : to_z w16 (of_z w16 c.args.max_version) ≡ c.args.max_version = search (arith, ints, to_z-of_z) in
    let first = limit_of c.args.min_version _ _ least c.is_normal_number.ensures c.if-not-is_normal_number.false in
    let last = limit_of c.args.max_version _ _ most c.is_normal_number-else-not-is_normal_number.ensures c.if-not-is_normal_number-2.false in
    let order : nat_abs c.args.min_version ≤ nat_abs c.args.max_version = grind (arith, least, most, first, last, c.if-min_version-max_version.false) in
    IfErr-weaker c.encode_from.result _ _ (λ e. refused_range _ _ c.args.level c.args.min_version c.args.max_version _ _ e (first, last, order)
    (ap (λ (z : ℤ). nat_abs z) least) (ap (λ (z : ℤ). nat_abs z) most)) c.encode_from.ensures.err
