-- The weight is counted, and is what each plan needs six times.
use Rattle.std.proofs.Common.{◌∙◌, arith}
use Rattle.qrcode_bits.specs.Plans.{segment_at}
use Rattle.qrcode_bits.proofs.Weights.{same_sixths}
use Rattle.smallest_symbols.proofs.ByteCosts.{all_weighed, few_weighed, more_weighed}
use Rattle.smallest_symbols.proofs.ByteCosts.{segment_ordered}
use Rattle.smallest_symbols.proofs.byte_needed.needed_bits.Goals as goal

pub overflow_sub-sum : goal.overflow_sub-sum
overflow_sub-sum c = segment_ordered c.args.segments.now c.requires c.loop-s.s-index c.loop-s-test.true

pub overflow_mul-sum : goal.overflow_mul-sum
overflow_mul-sum c =
    let s = segment_at c.args.segments.now c.loop-s.s-index in
    let more = more_weighed c.args.segments.now c.requires c.loop-s.s-index c.loop-s.sum c.sixths.result (c.sixths.ensures ∙ same_sixths s.mode)
    c.loop-s-test.true c.loop-s.invariant in
    omega (arith, more, few_weighed c.args.segments.now c.requires)

pub overflow_add-sum : goal.overflow_add-sum
overflow_add-sum c =
    let s = segment_at c.args.segments.now c.loop-s.s-index in
    let more = more_weighed c.args.segments.now c.requires c.loop-s.s-index c.loop-s.sum c.sixths.result (c.sixths.ensures ∙ same_sixths s.mode)
    c.loop-s-test.true c.loop-s.invariant in
    omega (arith, more, few_weighed c.args.segments.now c.requires)

pub loop-s-preserved : goal.loop-s-preserved
loop-s-preserved c =
    let s = segment_at c.args.segments.now c.loop-s.s-index in
    more_weighed c.args.segments.now c.requires c.loop-s.s-index c.loop-s.sum c.sixths.result (c.sixths.ensures ∙ same_sixths s.mode)
    c.loop-s-test.true c.loop-s.invariant

pub returns : goal.returns
returns c = all_weighed c.args.segments.now c.loop-s.s-index c.loop-s.sum (omega (arith, c.loop-s-test.false)) c.loop-s.invariant
