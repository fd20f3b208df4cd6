use Rattle.qrcode_grid.proofs.Prelude.{◌≡◌, ◌+◌, ◌*◌, ◌∙◌, ap, arith, count_below, has_five, has_six, plane, cell, ◌==◌, length-set}
use Rattle.qrcode_grid.proofs.MarkedLanes.{next_rows, count_few, count_both_le, marks_and, row_marked}
use Rattle.qrcode_grid.proofs.canvas.scoring.counting.count_runs.Goals as goal

pub loop-i-preserved : goal.loop-i-preserved
loop-i-preserved c =
    let three = marks_and _ _ _ _ (marks_and _ _ _ _ c.dark.ensures c.dark-in-loop-i.ensures) c.dark-in-loop-i-2.ensures in
    let five = marks_and _ _ _ _ three c.dark-in-loop-i-3.ensures in
    let six = marks_and _ _ _ _ five c.dark-in-loop-i-4.ensures in
    let s = c.args.step in let twins = c.args.twins.now in let at = 256 * c.loop-chunk.chunk in
    record {
      sizes = (length-set c.loop-i.five _ _ ∙ c.loop-i.invariant.sizes.0, length-set c.loop-i.six _ _ ∙ c.loop-i.invariant.sizes.1);
      found_fives = row_marked (λ i m j. has_five s (plane m twins) (at + 16 * i + j))
          c.loop-i.five c.loop-i.i _ (omega arith) c.loop-i.invariant.found_fives five;
      found_sixes = row_marked (λ i m j. has_six s (plane m twins) (at + 16 * i + j))
          c.loop-i.six c.loop-i.i _ (omega arith) c.loop-i.invariant.found_sixes six;
    }

pub loop-chunk-preserved : goal.loop-chunk-preserved
loop-chunk-preserved c =
    let from = 256 * c.loop-chunk.chunk in let s = c.args.step in let twins = c.args.twins.now in
    let end : from + 16 * 16 ≡ 256 * (c.loop-chunk.chunk + 1) = omega arith in
    record {
      sizes = c.loop-i.invariant.sizes;
      small_fives = λ m h. omega (arith, c.loop-chunk.invariant.small_fives m h, c.add_rows-fives.ensures.small m h);
      small_sixes = λ m h. omega (arith, c.loop-chunk.invariant.small_sixes m h, c.add_rows-sixes.ensures.small m h);
      fives = λ m h.
          let next = next_rows c.loop-i.five (λ m k. has_five s (plane m twins) k) from 16
          (λ i l. c.loop-i.invariant.found_fives i (omega (arith, l, c.loop-i-test.false))) m h in
          omega (arith, c.loop-chunk.invariant.fives m h, c.add_rows-fives.ensures.more m h, next, ap (count_below (has_five s (plane m twins))) end);
      sixes = λ m h.
          let next = next_rows c.loop-i.six (λ m k. has_six s (plane m twins) k) from 16
          (λ i l. c.loop-i.invariant.found_sixes i (omega (arith, l, c.loop-i-test.false))) m h in
          omega (arith, c.loop-chunk.invariant.sixes m h, c.add_rows-sixes.ensures.more m h, next, ap (count_below (has_six s (plane m twins))) end);
    }

pub returns-clause-small : goal.returns-clause-small
returns-clause-small c = grind (arith, count_few)

pub returns-clause-fewer : goal.returns-clause-fewer
returns-clause-fewer c = λ m h.
    let twins = plane m c.args.twins.now in
    let both = count_both_le (has_five c.args.step twins) (λ k. cell c.args.step twins k 4 == 1) (256 * c.loop-chunk.chunk) in
    omega (
      arith,
      c.totals.ensures m h,
      c.totals-2.ensures m h,
      c.loop-chunk.invariant.fives m h,
      c.loop-chunk.invariant.sixes m h,
      both,
    )
