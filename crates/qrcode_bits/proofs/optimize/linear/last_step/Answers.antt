-- The best start of each bucket is tried.
use Rattle.qrcode_bits.proofs.Prelude.{◌≡◌, ◌*◌, ◌^◌, ◌<◌, Some, refl, arith, IsBestStart, InBucket, bucket_mode}
use Rattle.qrcode_bits.proofs.Grouping.{best-in, some-found, none-found}
use Rattle.qrcode_bits.proofs.Ending.{IsGiven, rest-at, rest-within, enough, fits, sought-keeps, sought-takes, sought-nothing, sought-last}
use Rattle.qrcode_bits.proofs.optimize.linear.last_step.Given.{Over}
use Rattle.qrcode_bits.proofs.optimize.linear.last_step.Goals.{At-loop-bucket, After-is_some, then-is_some+then-is_better}
use Rattle.qrcode_bits.proofs.optimize.linear.last_step.Goals.{then-is_some+else-is_better, else-is_some}
use Rattle.qrcode_bits.proofs.optimize.linear.last_step.Goals as goal

given : (g : Over) (c : At-loop-bucket g) → IsGiven g.S.AnyStart.FAR c.args.segments.now c.args.version c.args.headers.now
given g c = record { linear = c.requires.linear; heads = c.requires.headers; wide = g.met.S.AnyStart.wide; near = c.requires.below }

here : (g : Over) (c : After-is_some g) → (g.S.AnyStart.read c.index-groups-slot_of.result).bits < 2 ^ 24 * g.S.AnyStart.FAR →
    IsBestStart g.S.AnyStart.FAR c.args.segments.now c.args.version (bucket_mode c.loop-bucket.bucket)
    (InBucket c.args.segments.now c.args.end c.args.end (bucket_mode c.loop-bucket.bucket) c.loop-bucket.bucket)
    (Some (g.S.AnyStart.read c.index-groups-slot_of.result))
here g c few = best-in g.S.AnyStart.read g.S.AnyStart.FAR c.args.segments.now c.args.version c.args.end c.args.groups.now c.requires.long c.requires.groups
    c.loop-bucket.bucket c.slot_of.result c.bucket_mode-mode.result c.index-groups-slot_of.result c.loop-bucket-test.true c.bucket_mode-mode.ensures
    c.slot_of.ensures.slot c.index-groups-slot_of.is _ (some-found _ _ few)

pub overflow_sub-last_end-then-is_some : goal.overflow_sub-last_end-then-is_some
overflow_sub-last_end-then-is_some g c =
    let at = goal.at.overflow_sub-last_end-then-is_some g c in
    rw (rest-at c.loop-bucket.bucket c.loop-bucket-test.true)
    (rest-within (given g at.At-loop-bucket) c.args.end c.requires.within _ _ (here g at.After-is_some c.if-is_some.ensures.some))

pub moved-start-requires-clause-within : goal.moved-start-requires-clause-within
moved-start-requires-clause-within g c =
    let at = goal.at.moved-start-requires-clause-within g c in
    fits (given g at.At-loop-bucket) c.args.end c.requires.within _ _ (here g at.After-is_some c.if-is_some.ensures.some) _ _ _ _
    c.bucket_mode-mode.ensures (rest-at _ c.loop-bucket-test.true) c.part_len-bits.ensures refl

pub moved-start-requires-clause-less : goal.moved-start-requires-clause-less
moved-start-requires-clause-less g c =
    let at = goal.at.moved-start-requires-clause-less g c in
    enough (given g at.At-loop-bucket) c.args.end c.requires.within _ _ (here g at.After-is_some c.if-is_some.ensures.some) _ _ _ _
    c.bucket_mode-mode.ensures (rest-at _ c.loop-bucket-test.true) c.part_len-bits.ensures (rw (c.FAR.ensures, c.period_bits.ensures) refl)

pub loop-bucket-preserved : goal.loop-bucket-preserved
loop-bucket-preserved g c =
    let at = goal.at.loop-bucket-preserved g c in
    let data-is = given g at.At-loop-bucket in
    let best = g.S.AnyStart.read c.loop-bucket.best in
    let before = c.loop-bucket.invariant.sought in
    record {
      within = omega arith;
      sought = elim c.if-is_some.branch [
        | then-is_some+then-is_better w ↦ rw (w.best-is, w.moved-start.ensures) (sought-takes data-is c.args.end c.requires.within _ _
            (here g at.After-is_some w.if-is_some.ensures.some) _ _ _ _ c.bucket_mode-mode.ensures (rest-at _ c.loop-bucket-test.true)
            w.part_len-bits.ensures (rw (w.FAR.ensures, w.period_bits.ensures) refl) best before (rw w.moved-start.ensures at w.if-is_better.ensures.wins))
        | then-is_some+else-is_better w ↦ rw w.best-is (sought-keeps data-is c.args.end c.requires.within _ _
            (here g at.After-is_some w.if-is_some.ensures.some) _ _ _ _ c.bucket_mode-mode.ensures (rest-at _ c.loop-bucket-test.true)
            w.part_len-bits.ensures (rw (w.FAR.ensures, w.period_bits.ensures) refl) best before (rw w.moved-start.ensures at w.if-is_better.ensures.loses))
        | else-is_some w ↦ rw w.best-is (sought-nothing data-is c.args.end c.requires.within c.loop-bucket.bucket best before
            (best-in g.S.AnyStart.read g.S.AnyStart.FAR c.args.segments.now c.args.version c.args.end c.args.groups.now c.requires.long c.requires.groups
            c.loop-bucket.bucket c.slot_of.result c.bucket_mode-mode.result c.index-groups-slot_of.result c.loop-bucket-test.true
            c.bucket_mode-mode.ensures c.slot_of.ensures.slot c.index-groups-slot_of.is _ (none-found _ _ w.if-is_some.ensures.none)))
      ];
      ticked = grind arith;
    }

pub returns-clause-step : goal.returns-clause-step
returns-clause-step g c =
    let eight : c.loop-bucket.bucket ≡ 8 = omega (arith, c.loop-bucket.invariant.within, c.loop-bucket-test.false) in
    sought-last (given g (goal.at.returns-clause-step g c).At-loop-bucket) c.args.end c.requires.within _ c.requires.some
    (rw eight at c.loop-bucket.invariant.sought)
