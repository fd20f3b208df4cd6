-- One segment after the other.
use Rattle.qrcode_bits.proofs.Prelude.{◌+◌, ◌<◌, ◌*◌, arith, refl, AreGroups, groups_of}
use Rattle.qrcode_bits.proofs.optimize.linear.optimize_linear.Given.{Over}
use Rattle.qrcode_bits.proofs.optimize.linear.optimize_linear.Goals.{After-advance, After-add_start}
use Rattle.qrcode_bits.proofs.{ReadBack.AreSteps-start, ReadBack.AreSteps-push, Grouping.AreGroups-next, Grouping.AreGroups-none, Ending.step-small}
use Rattle.qrcode_bits.proofs.optimize.linear.optimize_linear.Goals as goal

pub loop-start-init : goal.loop-start-init
loop-start-init g c =
    let w = AreSteps-start g.S.AnyStart.read c.args.segments.now c.args.version _ _ c.first-before.result c.in_ok-steps.ensures.items
    c.in_ok-push.ensures.items c.first-before.ensures in
    record {
      long = w.0;
      right = w.1;
      last = w.2;
      slots = refl;
      groups = AreGroups-none g.S.AnyStart.read g.S.AnyStart.FAR c.args.segments.now c.args.version c.none-groups.result c.none-groups.ensures;
      ticked = omega arith;
    }

-- the plan before the segment has few bits
few : (g : Over) (c : After-advance g) → (g.S.AnyStart.read c.loop-start.before).bits < 32 * g.S.AnyStart.FAR
few g c =
    step-small (record { linear = c.requires.linear; heads = c.header_widths-headers.ensures; wide = g.met.S.AnyStart.wide; near = c.requires.below })
    c.loop-start.start (omega (arith, c.loop-start-test.true)) _ c.loop-start.invariant.last

pub next-next-requires-clause-bits : goal.next-next-requires-clause-bits
next-next-requires-clause-bits g c = few g (goal.at.next-next-requires-clause-bits g c).After-advance

pub add_start-requires-clause-bits : goal.add_start-requires-clause-bits
add_start-requires-clause-bits g c = rw c.next-next.ensures (few g (goal.at.add_start-requires-clause-bits g c).After-advance)

-- the groups with the segment
next : (g : Over) (c : After-add_start g) → AreGroups g.S.AnyStart.FAR c.args.segments.now c.args.version (c.loop-start.start + 1) (c.loop-start.start + 1)
    (groups_of g.S.AnyStart.read g.S.AnyStart.FAR c.add_start.new.groups)
next g c =
    let near = c.requires.below.near c.loop-start.start c.loop-start-test.true in
    let order = c.requires.linear.ordered c.loop-start.start c.loop-start.start (omega arith) c.loop-start-test.true in
    AreGroups-next g.S.AnyStart.FAR c.args.segments.now c.args.version c.loop-start.start c.loop-start-test.true _ _ _ _ _ c.loop-start.invariant.last
    c.next-next.ensures c.loop-start.invariant.groups c.advance.ensures.advances c.add_start.ensures.added (omega arith)

pub last_step-before-requires-clause-groups : goal.last_step-before-requires-clause-groups
last_step-before-requires-clause-groups g c = next g (goal.at.last_step-before-requires-clause-groups g c).After-add_start

pub loop-start-preserved : goal.loop-start-preserved
loop-start-preserved g c =
    let inv = c.loop-start.invariant in
    let w = AreSteps-push g.S.AnyStart.read c.args.segments.now c.args.version c.loop-start.steps.items _ c.last_step-before.result c.loop-start.start
    inv.long inv.right c.last_step-before.ensures.step c.in_ok-push-2.ensures.items in
    record {
      long = w.0;
      right = w.1;
      last = c.last_step-before.ensures.step;
      slots = c.add_start.ensures.long;
      groups = next g (goal.at.loop-start-preserved g c).After-add_start;
      ticked = omega (arith, inv.ticked, c.advance.ensures.ticked, c.add_start.ensures.ticked, c.last_step-before.ensures.ticked);
    }
