-- Each segment is one that the version can spell.
use Rattle.smallest_symbols.proofs.BytePlans.{spellable_at}
use Rattle.smallest_symbols.proofs.byte_drawing.plan_bits.Goals as goal

pub push_segment-requires-clause-spellable : goal.push_segment-requires-clause-spellable
push_segment-requires-clause-spellable c =
    rw c.loop-segment.invariant.version
    (spellable_at c.args.version c.args.bytes.now c.args.plan.now c.loop-segment.segment-index _ c.loop-segment-test.true c.requires.spellable)
