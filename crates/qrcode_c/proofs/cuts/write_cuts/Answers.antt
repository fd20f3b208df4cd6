-- One cut more is written.
use Rattle.std.proofs.Common.{◌∙◌, set, get_or, add-one, ap, arith}
use Rattle.qrcode_c.proofs.Writing.{put_step}
use Rattle.qrcode_c.proofs.cuts.write_cuts.Goals as goal

pub loop-i-preserved : goal.loop-i-preserved
loop-i-preserved c =
    rw add-one (ap (λ t. set t c.loop-i.i (get_or c.args.found.now c.loop-i.i 0)) c.loop-i.invariant
    ∙ put_step c.args.found.now c.args.cuts.now c.loop-i.i 0 c.loop-i-test.true (omega (arith, c.requires)))
