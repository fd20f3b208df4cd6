use Rattle.qrcode_bits.proofs.Prelude.{◌<◌, arith}
use Rattle.qrcode_bits.proofs.ReadBack.{step-in, IsStep-front, read-more}
use Rattle.qrcode_bits.proofs.optimize.linear.read_back.Goals as goal

pub joined-requires-clause-some : goal.joined-requires-clause-some
joined-requires-clause-some g c =
    let step = step-in g.S.AnyStart.read c.args.segments.now c.args.version c.args.steps.now c.loop-end.end c.index-steps-end.result c.requires.right
    (omega (arith, c.requires.all, c.loop-end.invariant.0)) c.index-steps-end.is in
    rw c.index-start.ensures (IsStep-front step (omega (arith, c.loop-end-test.true))).1

pub loop-end-preserved : goal.loop-end-preserved
loop-end-preserved g c =
    let step = step-in g.S.AnyStart.read c.args.segments.now c.args.version c.args.steps.now c.loop-end.end c.index-steps-end.result c.requires.right
    (omega (arith, c.requires.all, c.loop-end.invariant.0)) c.index-steps-end.is in
    let some : 0 < c.loop-end.end = omega (arith, c.loop-end-test.true) in
    let front = (IsStep-front step some).1 in
    rw (c.index-start.ensures, c.in_ok-push.ensures.items) (
      omega (arith, c.loop-end.invariant.0, front),
      read-more c.args.segments.now c.args.version c.loop-end.end (g.S.AnyStart.read c.index-steps-end.result) c.loop-end.plan.items c.joined.result step some
          (rw c.index-start.ensures at c.joined.ensures) c.loop-end.invariant.1,
    )
