-- The weight is counted.
use Rattle.qrcode_bits.proofs.Prelude.{◌≡◌, ℕ, ◌+◌, ◌*◌, ◌-◌, ◌<◌, ◌≤◌, length, sym, subst, arith, ltb-true, drop, nat_lt, true, parsed, segment_at, FitsNot}
use Rattle.qrcode_bits.proofs.Prelude.{ap, ◌∙◌}
use Rattle.std.proofs.lemmas.Bool.{OnTrue_from}
use Rattle.qrcode_bits.proofs.{Pairs.bytes_valid, Lengths.dense_message, Adjoining.Adjoin-at, Adjoining.parsed-adjoin, Weights.weight}
use Rattle.qrcode_bits.proofs.Weights.{same_sixths, heavy_unfit, light, weighed_more, weighed_all}
use Rattle.qrcode_bits.proofs.bits.choice.is_too_heavy.Goals as goal

pub returns-then-bytes-limit : goal.returns-then-bytes-limit
returns-then-bytes-limit c front =
    dense_message front _ _ _ _ (bytes_valid c.args.bytes.now (λ i. omega (arith, c.type_inv.bytes i))) c.requires.limit (omega (arith, c.if-bytes-limit.true))

pub overflow_sub-sum : goal.overflow_sub-sum
overflow_sub-sum c =
    let at = Adjoin-at 0 (length c.args.bytes.now) (parsed c.args.bytes.now) c.loop-s.s-index (parsed-adjoin c.args.bytes.now)
    (rw c.requires.segments at c.loop-s-test.true) in
    rw c.requires.segments (omega (arith, at.1))

pub overflow_mul-sum : goal.overflow_mul-sum
overflow_mul-sum c =
    let s = segment_at c.args.segments.now c.loop-s.s-index in
    let is = c.sixths.ensures ∙ same_sixths s.mode in
    let more = weighed_more c.args.segments.now c.loop-s.s-index c.loop-s.sum c.loop-s-test.true c.loop-s.invariant in
    let same = ap (λ k. k * (s.end - s.begin)) is in
    let few = subst (λ ss. weight ss ≤ 340272) (sym c.requires.segments) (light c.args.bytes.now c.requires.short) in omega (arith, more, same, few)

pub overflow_add-sum : goal.overflow_add-sum
overflow_add-sum c =
    let s = segment_at c.args.segments.now c.loop-s.s-index in
    let is = c.sixths.ensures ∙ same_sixths s.mode in
    let more = weighed_more c.args.segments.now c.loop-s.s-index c.loop-s.sum c.loop-s-test.true c.loop-s.invariant in
    let same = ap (λ k. k * (s.end - s.begin)) is in
    let few = subst (λ ss. weight ss ≤ 340272) (sym c.requires.segments) (light c.args.bytes.now c.requires.short) in omega (arith, more, same, few)

pub loop-s-preserved : goal.loop-s-preserved
loop-s-preserved c =
    let s = segment_at c.args.segments.now c.loop-s.s-index in
    let is = c.sixths.ensures ∙ same_sixths s.mode in
    let more = weighed_more c.args.segments.now c.loop-s.s-index c.loop-s.sum c.loop-s-test.true c.loop-s.invariant in
    let same = ap (λ k. k * (s.end - s.begin)) is in
    let next : c.loop-s.sum + c.sixths.result * (s.end - s.begin) + weight (drop (c.loop-s.s-index + 1) c.args.segments.now) ≡ weight c.args.segments.now =
    omega (arith, more, same) in next

pub returns : goal.returns
returns c =
    let go : nat_lt (6 * c.args.limit) c.loop-s.sum ≡ true → (front : ℕ) → FitsNot front c.args.bytes.now c.args.version c.args.level = λ more front.
    (let all = weighed_all c.args.segments.now c.loop-s.s-index c.loop-s.sum (omega (arith, c.loop-s-test.false)) c.loop-s.invariant in
    let over = ltb-true _ _ more in
    heavy_unfit front c.args.bytes.now c.args.version c.args.level c.args.limit c.requires.limit
    (subst (λ ss. 6 * c.args.limit < weight ss) c.requires.segments (omega (arith, all, over)))) in
    OnTrue_from _ _ go
