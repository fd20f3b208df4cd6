-- One part more, and all of them.
use Rattle.text_plans.specs.Plan.{part_of}
use Rattle.smallest_symbols.proofs.TextFrames.{spelled_at}
use Rattle.smallest_symbols.proofs.pushing.plan_bits.Goals as goal

pub push_part-requires-clause-spelled : goal.push_part-requires-clause-spelled
push_part-requires-clause-spelled c =
    rw (c.loop-part.invariant.version, c.bytes-bytes.ensures, c.parts-parts.ensures.parts)
    (spelled_at c.args.version (part_of c.args.plan.now.bytes) c.args.plan.now.parts c.loop-part.part-index _
    (rw (c.parts-parts.ensures.parts) at c.loop-part-test.true) c.requires.spelled)
