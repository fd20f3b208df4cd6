use Rattle.std.proofs.Common.{◌+◌, ap, ◌∙◌, arith}
use Rattle.png.specs.Checksums.{Sums}
use Rattle.png.proofs.SumLemmas.{sums_joined}
use Rattle.png.proofs.checksums.sums_of_row.Goals as goal

pub loop-at-preserved : goal.loop-at-preserved
loop-at-preserved c =
    let j = sums_joined c.args.bytes.now c.loop-at.at (c.loop-at.at + c.min.result) c.loop-at.sums.low c.loop-at.sums.high (omega arith)
    c.loop-at.invariant.low c.loop-at.invariant.high in
    record {
      in_bytes = omega (arith, c.min.ensures);
      low_small = c.add_block-sums.ensures.low_small;
      high_small = c.add_block-sums.ensures.high_small;
      low = c.add_block-sums.ensures.low ∙ ap (λ (s : Sums). s.low) j;
      high = c.add_block-sums.ensures.high ∙ ap (λ (s : Sums). s.high) j;
    }
