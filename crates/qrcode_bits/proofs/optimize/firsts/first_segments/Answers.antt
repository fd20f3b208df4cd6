-- One segment after the other, up to the first that takes the plan past the limit.
use Rattle.qrcode_bits.proofs.Prelude.{ℕ, ◌+◌, ◌<◌, ◌≤◌, ◌*◌, ◌≡◌, arith, subst, length, AreGroups, groups_of, bits_before}
use Rattle.qrcode_bits.proofs.optimize.firsts.first_segments.Given.{Over}
use Rattle.qrcode_bits.proofs.optimize.firsts.first_segments.Goals.{After-advance, After-add_start}
use Rattle.qrcode_bits.proofs.{Grouping.AreGroups-next, Ending.step-small, Firsts.first-step, Firsts.step-bits}
use Rattle.qrcode_bits.proofs.optimize.firsts.first_segments.Goals as goal

pub loop-start-init : goal.loop-start-init
loop-start-init g c = record {
  last = first-step _ _ _ c.first-before.ensures;
  few = rw c.first-before.ensures (omega arith);
  slots = c.requires.long;
  groups = c.requires.none;
  ticked = omega arith;
}

-- the plan before the segment has few bits
few : (g : Over) (c : After-advance g) → (g.S.AnyStart.read c.loop-start.before).bits < 32 * g.S.AnyStart.FAR
few g c =
    step-small (record { linear = c.requires.linear; heads = c.header_widths-headers.ensures; wide = g.met.S.AnyStart.wide; near = c.requires.below })
    c.loop-start.start (omega (arith, c.loop-start-test.true)) _ c.loop-start.invariant.last

pub next-next-requires-clause-bits : goal.next-next-requires-clause-bits
next-next-requires-clause-bits g c = few g (goal.at.next-next-requires-clause-bits g c).After-advance

pub add_start-requires-clause-bits : goal.add_start-requires-clause-bits
add_start-requires-clause-bits g c = rw c.next-next.ensures (few g (goal.at.add_start-requires-clause-bits g c).After-advance)

-- the groups with the segment
next : (g : Over) (c : After-add_start g) → AreGroups g.S.AnyStart.FAR c.args.segments.now c.args.version (c.loop-start.start + 1) (c.loop-start.start + 1)
    (groups_of g.S.AnyStart.read g.S.AnyStart.FAR c.add_start.new.groups)
next g c =
    let near = c.requires.below.near c.loop-start.start c.loop-start-test.true in
    let order = c.requires.linear.ordered c.loop-start.start c.loop-start.start (omega arith) c.loop-start-test.true in
    AreGroups-next g.S.AnyStart.FAR c.args.segments.now c.args.version c.loop-start.start c.loop-start-test.true _ _ _ _ _ c.loop-start.invariant.last
    c.next-next.ensures c.loop-start.invariant.groups c.advance.ensures.advances c.add_start.ensures.added (omega arith)

pub last_step-before-requires-clause-groups : goal.last_step-before-requires-clause-groups
last_step-before-requires-clause-groups g c = next g (goal.at.last_step-before-requires-clause-groups g c).After-add_start

pub returns-then-exceeds-clause-fits : goal.returns-then-exceeds-clause-fits
returns-then-exceeds-clause-fits g c =
    subst (λ (n : ℕ). n ≤ c.args.limit) (step-bits _ _ _ _ c.loop-start.invariant.last) c.loop-start.invariant.few

pub returns-then-exceeds-clause-over : goal.returns-then-exceeds-clause-over
returns-then-exceeds-clause-over g c _ =
    subst (λ (n : ℕ). c.args.limit < n) (step-bits _ _ _ _ c.last_step-before.ensures.step) (c.exceeds.ensures.0 c.if-exceeds.true)

pub loop-start-preserved : goal.loop-start-preserved
loop-start-preserved g c = record {
  last = c.last_step-before.ensures.step;
  few = grind (arith, c.exceeds.ensures, c.if-exceeds.false);
  slots = c.add_start.ensures.long;
  groups = next g (goal.at.loop-start-preserved g c).After-add_start;
  ticked = omega (arith, c.loop-start.invariant.ticked, c.advance.ensures.ticked, c.add_start.ensures.ticked, c.last_step-before.ensures.ticked);
}

pub returns-clause-fits : goal.returns-clause-fits
returns-clause-fits g c =
    let end : c.loop-start.start ≡ length c.args.segments.now = omega (arith, c.loop-start-test.false, c.loop-start.auto.start-end) in
    subst (λ (n : ℕ). bits_before c.args.segments.now c.args.version n ≤ c.args.limit) end
    (subst (λ (n : ℕ). n ≤ c.args.limit) (step-bits _ _ _ _ c.loop-start.invariant.last) c.loop-start.invariant.few)

pub returns-then-exceeds-clause-groups : goal.returns-then-exceeds-clause-groups
returns-then-exceeds-clause-groups g c _ = next g (goal.at.returns-then-exceeds-clause-groups g c).After-add_start

pub returns-clause-groups : goal.returns-clause-groups
returns-clause-groups g c less = absurd (omega (arith, c.loop-start-test.false, c.loop-start.auto.start-end, less))
