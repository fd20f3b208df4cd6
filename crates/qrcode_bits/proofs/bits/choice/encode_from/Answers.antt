-- Data are parsed as their content wants it; more than 7089 bytes fit no version.
use Rattle.qrcode_bits.proofs.Prelude.{◌+◌, ◌-◌, List, ℕ, subst, length, arith, front_bits, parsed_bytes, IsUnencodable, IfErr-weaker, common_steps}
use Rattle.qrcode_bits.specs.Plans.{normal_from}
use Rattle.qrcode_bits.proofs.{Pairs.bytes_valid, Lengths.long_message, Contents.length-parsed, Contents.parsed-bytes, Contents.map-parsed}
use Rattle.qrcode_bits.proofs.{Contents.parsed-alone}
use Rattle.qrcode_bits.proofs.bits.choice.encode_from.Goals as goal

pub returns-then-bytes-gt-LONGEST_DATA-clause-err : goal.returns-then-bytes-gt-LONGEST_DATA-clause-err
returns-then-bytes-gt-LONGEST_DATA-clause-err c =
    let content = c.args.front.now.content in
    let are = bytes_valid c.args.bytes.now (λ i. omega (arith, c.type_inv.bytes i)) in
    λ n few. long_message (length (front_bits c.args.front.now)) (parsed_bytes content c.args.bytes.now) c.args.level c.args.limit c.requires.to_forty
    (parsed-bytes content c.args.bytes.now are) (omega (arith, length-parsed content c.args.bytes.now, c.if-bytes-gt-LONGEST_DATA.true)) (c.args.least + n)
    (omega (arith, few, c.requires.in_order))

pub returns-then-eq-clause-err : goal.returns-then-eq-clause-err
returns-then-eq-clause-err c =
    IfErr-weaker c.encode_up_to.result _ _
    (λ e. subst (λ (z : List ℕ). IsUnencodable (normal_from c.args.least) (length (front_bits c.args.front.now)) z c.args.level
    (c.args.limit - c.args.least) e)
    (parsed-alone c.args.front.now.content c.args.bytes.now (grind (arith, common_steps)))) c.encode_up_to.ensures.err

pub returns-clause-err : goal.returns-clause-err
returns-clause-err c =
    IfErr-weaker c.encode_up_to-2.result _ _
    (λ e. subst (λ (z : List ℕ). IsUnencodable (normal_from c.args.least) (length (front_bits c.args.front.now)) z c.args.level
    (c.args.limit - c.args.least) e)
    (grind (arith, common_steps, map-parsed))) c.encode_up_to-2.ensures.err
