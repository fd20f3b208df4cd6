use Rattle.qrcode_grid.proofs.Prelude.{◌≡◌, ◌+◌, ◌*◌, ℕ, ap, arith, count_below, has, plane}
use Rattle.qrcode_grid.proofs.MarkedLanes.{next_rows, count_few}
use Rattle.qrcode_grid.proofs.canvas.scoring.counting.count.Goals as goal

pub loop-chunk-preserved : goal.loop-chunk-preserved
loop-chunk-preserved c =
    let from = 256 * c.loop-chunk.chunk in let a = c.args in
    let test = λ (m : ℕ). has a.feature a.width a.step (plane m a.padded.now) (plane m a.twins.now) in
    let end : from + 16 * 16 ≡ 256 * (c.loop-chunk.chunk + 1) = omega arith in
    record {
      size = c.loop-i.invariant.size;
      small = λ m h. omega (arith, c.loop-chunk.invariant.small m h, c.add_rows-tally.ensures.small m h);
      so_far = λ m h.
          let next = next_rows c.loop-i.rows test from 16 (λ i l. c.loop-i.invariant.found i (omega (arith, l, c.loop-i-test.false))) m h in
          omega (arith, c.loop-chunk.invariant.so_far m h, c.add_rows-tally.ensures.more m h, next, ap (count_below (test m)) end);
    }

pub returns-clause-small : goal.returns-clause-small
returns-clause-small c = grind (arith, count_few)
