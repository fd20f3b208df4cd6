-- The limit is one of 1 to 40, and the position one of the sequence.
use Rattle.qrcode_bits.proofs.Prelude.{◌≡◌, ◌∙◌, ℤ, Some, ap, arith, length, nat_abs, ints, subst, to_z-of_z, IfErr-weaker, header_of, Header, Front, front_of}
use Rattle.qrcode_bits.proofs.Prelude.{front_bits, Bytes, parsed_bytes, normal, IsUnencodable}
use mir.Val.{to_z, of_z}
use mir.Syntax.{w16}
use Rattle.qrcode_bits.proofs.{Classes.refused_part, Classes.limit_of, Reading.length-part}
use Rattle.qrcode_bits.proofs.bits.encode.encode_part.Goals as goal

pub returns-clause-err : goal.returns-clause-err
returns-clause-err c =
    let same : to_z w16 (of_z w16 c.args.max_version) ≡ c.args.max_version = search (arith, ints, to_z-of_z) in
    let limit = limit_of c.args.max_version _ _ same c.is_normal_number.ensures c.if-not-is_normal_number.false in
    let numbers = header_of c.args.position c.args.total c.args.parity in
    let place = c.in_ok-check_place.ensures.ok in
    let front = c.with_header-front.result in
    let is : front ≡ front_of (Some numbers) Bytes = c.with_header-front.ensures ∙ ap (λ (h : Header). front_of (Some h) Bytes) c.new-header.ensures in
    let size = ap (λ (f : Front). length (front_bits f)) is ∙ length-part numbers in
    IfErr-weaker c.encode_message.result _ _ (λ e r. refused_part numbers c.args.bytes.now c.args.level c.args.max_version
    (nat_abs (to_z w16 (of_z w16 c.args.max_version))) (length (front_bits front)) e limit (place.0, place.1, place.2, omega arith)
    (ap (λ (z : ℤ). nat_abs z) same) size
    (subst (λ (f : Front). IsUnencodable normal (length (front_bits front)) (parsed_bytes f.content c.args.bytes.now) c.args.level
    (nat_abs (to_z w16 (of_z w16 c.args.max_version))) e) is r)) c.encode_message.ensures.err
