use Rattle.qrcode_bits.proofs.Prelude.{◌≡◌, ◌-◌, sym, ap, ◌∙◌, arith, join, segment_at}
use Rattle.qrcode_bits.proofs.Scan.{part-known, part_mode-more}
use Rattle.qrcode_bits.proofs.optimize.linear.joined.Goals as goal

pub loop-i-preserved : goal.loop-i-preserved
loop-i-preserved c =
    let inv = c.loop-i.invariant in
    let i = c.loop-i.i in
    let inside = c.loop-i-test.true in
    record {
      after = omega (arith, inv.after);
      within = omega arith;
      joined = c.max-mode.ensures ∙ ap (λ m. join m (segment_at c.args.segments.now i).mode) inv.joined
          ∙ sym (part_mode-more c.args.segments.now (i - c.args.start - 1) c.args.start i (omega (arith, inv.after)) (omega (arith, c.requires.within)));
    }

pub returns : goal.returns
returns c =
    let all : c.loop-i.i ≡ c.args.end = omega (arith, c.loop-i.invariant.within, c.loop-i-test.false) in
    rw (rw all at c.loop-i.invariant.joined)
    (part-known c.args.segments.now (c.args.end - c.args.start - 1) c.args.start c.args.end (omega (arith, c.requires.some)) c.requires.within)
