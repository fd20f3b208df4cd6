-- The place is halved within the segment; no other segment, and no start, changes with it.
use Rattle.qrcode_bits.proofs.Prelude.{ℕ, ◌+◌, ◌-◌, ◌*◌, ◌/◌, ◌<◌, ◌≤◌, List, sym, subst, arith, Segment, segment_at, bits_before}
use Rattle.qrcode_bits.proofs.Prelude.{AreGroups, groups_of}
use Rattle.qrcode_bits.specs.Optimizer.{cut_at}
use Rattle.qrcode_bits.proofs.{Firsts.step-bits, CutGroups.bits-whole, CutGroups.cut-groups, CutGroups.moved_cut}
use Rattle.qrcode_bits.proofs.CutGroups.{moved_again, moved_back, counted_units, scaled, one_or_two}
use Rattle.std.proofs.lemmas.List.{set-get_or}
use Rattle.qrcode_bits.proofs.optimize.firsts.last_of_segment.Goals as goal

pub overflow_sub-high : goal.overflow_sub-high
overflow_sub-high g c = let k = c.requires.cuts.units c.args.index c.requires.inside in omega (arith, k.2.is)

pub loop-high-init : goal.loop-high-init
loop-high-init g c =
    let segments = c.args.segments.now in
    let i = c.args.index in
    let inside = c.requires.inside in
    let k = c.requires.cuts.units i inside in
    let n = counted_units segments i c.unit_size-unit.result k.0 c.unit_size-unit.ensures k.1 k.2 in
    record {
      less = n.0;
      within = omega (arith, n.1);
      fits = λ h.
          absurd {A = bits_before (cut_at segments i ((segment_at segments i).begin + c.unit_size-unit.result * 0)) c.args.version (i + 1) ≤ c.args.limit}
          (omega (arith, h));
      over = rw n.1 (rw (bits-whole c.args.version segments i inside) c.requires.over);
      moved = ((segment_at segments i).end, sym (set-get_or segments i _));
      ticked = omega arith;
    }

pub last_step-last-requires-clause-groups : goal.last_step-last-requires-clause-groups
last_step-last-requires-clause-groups g c =
    let segments = c.args.segments.now in
    let i = c.args.index in
    let inside = c.requires.inside in
    let place = (segment_at segments i).begin + c.unit_size-unit.result * (c.loop-high.low + (c.loop-high.high - c.loop-high.low) / 2) in
    let moved = c.loop-high.invariant.moved in
    subst (λ (xs : List Segment). AreGroups g.S.AnyStart.FAR xs c.args.version (i + 1) (i + 1)
    (groups_of g.S.AnyStart.read g.S.AnyStart.FAR c.args.groups.now))
    (sym (moved_cut segments c.loop-high.segments i moved.0 place inside moved.1))
    (cut-groups segments i place inside g.S.AnyStart.FAR c.args.version _ c.requires.groups)

pub loop-high-preserved-then-exceeds : goal.loop-high-preserved-then-exceeds
loop-high-preserved-then-exceeds g c =
    let segments = c.args.segments.now in
    let i = c.args.index in
    let inside = c.requires.inside in
    let middle = c.loop-high.low + (c.loop-high.high - c.loop-high.low) / 2 in
    let place = (segment_at segments i).begin + c.unit_size-unit.result * middle in
    let known = c.loop-high.invariant in
    let cut = moved_cut segments c.loop-high.segments i known.moved.0 place inside known.moved.1 in
    let less : middle ≤ c.loop-high.high = omega (arith, c.loop-high-test.true) in
    let size = scaled c.unit_size-unit.result middle c.loop-high.high (rw c.unit_size-unit.ensures (one_or_two (segment_at segments i).mode)) less in
    record {
      less = omega (arith, c.loop-high-test.true);
      within = omega (arith, known.within, size);
      fits = known.fits;
      over = subst (λ (xs : List Segment). c.args.limit < bits_before xs c.args.version (i + 1)) cut
          (subst (λ (n : ℕ). c.args.limit < n) (step-bits _ _ _ _ c.last_step-last.ensures.step) (c.exceeds.ensures.0 c.if-exceeds.true));
      moved = (place, moved_again segments c.loop-high.segments i known.moved.0 place inside known.moved.1);
      ticked = omega (arith, known.ticked, c.last_step-last.ensures.ticked, c.loop-high-test.true);
    }

pub loop-high-preserved : goal.loop-high-preserved
loop-high-preserved g c =
    let segments = c.args.segments.now in
    let i = c.args.index in
    let inside = c.requires.inside in
    let middle = c.loop-high.low + (c.loop-high.high - c.loop-high.low) / 2 in
    let place = (segment_at segments i).begin + c.unit_size-unit.result * middle in
    let known = c.loop-high.invariant in
    let cut = moved_cut segments c.loop-high.segments i known.moved.0 place inside known.moved.1 in
    let few : (g.S.AnyStart.read c.last_step-last.result).bits ≤ c.args.limit = grind (arith, c.exceeds.ensures, c.if-exceeds.false) in
    record {
      less = omega (arith, c.loop-high-test.true);
      within = known.within;
      fits = λ _. subst (λ (xs : List Segment). bits_before xs c.args.version (i + 1) ≤ c.args.limit) cut
          (subst (λ (n : ℕ). n ≤ c.args.limit) (step-bits _ _ _ _ c.last_step-last.ensures.step) few);
      over = known.over;
      moved = (place, moved_again segments c.loop-high.segments i known.moved.0 place inside known.moved.1);
      ticked = omega (arith, known.ticked, c.last_step-last.ensures.ticked, c.loop-high-test.true);
    }

pub returns-clause-unchanged : goal.returns-clause-unchanged
returns-clause-unchanged g c =
    let segments = c.args.segments.now in
    let i = c.args.index in
    let inside = c.requires.inside in
    let moved = c.loop-high.invariant.moved in moved_back segments c.loop-high.segments i moved.0 inside moved.1
