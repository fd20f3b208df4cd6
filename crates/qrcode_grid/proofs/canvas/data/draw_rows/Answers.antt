use Rattle.qrcode_grid.proofs.Prelude.{◌≡◌, ◌<◌, ◌+◌, ◌-◌, ◌*◌, ◌/◌, ℕ, ap, subst, sym, ◌∙◌, arith, length, bits_from, FilledBelow, common_steps}
use Rattle.qrcode_grid.proofs.FillSteps.{offered_step, number_below, row_place-left, row_place-right}
use Rattle.qrcode_grid.proofs.canvas.data.draw_rows.Goals as goal

pub loop-row-preserved : goal.loop-row-preserved
loop-row-preserved c = record {
  fills = λ t pair is bits xs f.
      let w = c.args.columns.width in
      let rows = c.args.first + c.loop-row.row in
      let n = pair * (2 * w) + 2 * rows in
      let rest = bits_from c.args.streams in
      let here : pair * (2 * w) + 2 * c.args.first + 2 * c.loop-row.row ≡ n = omega arith in
      let before = subst (λ (k : ℕ). FilledBelow w t bits xs c.loop-row.modules k (rest c.loop-row.ahead)) here
      (c.loop-row.invariant.fills t pair is bits xs f) in
      let square : length xs ≡ w * w = sym before.size ∙ c.loop-row.auto.modules ∙ c.requires.square in
      let odd : w ≡ 2 * (w / 2) + 1 = omega (arith, is.odd) in
      let inside : rows < w = omega (arith, c.loop-row-test.true, c.requires.rows) in
      let second_in : n + 1 < w * (w - 1) = number_below w (w / 2) pair rows odd is.below inside in
      let first_in : n < w * (w - 1) = omega (arith, second_in) in
      let right = ap (λ p. p + 1) c.left_place-place.ensures.is ∙ row_place-right t pair rows c.args.columns is inside in
      let left = c.left_place-place.ensures.is ∙ row_place-left t pair rows c.args.columns is inside in
      let first =
      offered_step w (w / 2) t bits xs c.loop-row.modules c.put_bit-ahead.new.modules n (c.left_place-place.result + 1) (rest c.loop-row.ahead)
      (rest c.put_bit-ahead.result)
      odd is.timing square first_in right c.put_bit-ahead.ensures.modules c.put_bit-ahead.ensures.rest before in
      let both =
      offered_step w (w / 2) t bits xs c.put_bit-ahead.new.modules c.put_bit-ahead-in-loop-row.new.modules (n + 1) c.left_place-place.result
      (rest c.put_bit-ahead.result) (rest c.put_bit-ahead-in-loop-row.result)
      odd is.timing square second_in left c.put_bit-ahead-in-loop-row.ensures.modules c.put_bit-ahead-in-loop-row.ensures.rest first in
      let next : n + 1 + 1 ≡ pair * (2 * w) + 2 * c.args.first + 2 * (c.loop-row.row + 1) = omega arith in
      subst (λ (k : ℕ). FilledBelow w t bits xs c.put_bit-ahead-in-loop-row.new.modules k (rest c.put_bit-ahead-in-loop-row.result)) next both;
  small = c.put_bit-ahead-in-loop-row.ensures.small;
}

pub returns-clause-fills : goal.returns-clause-fills
returns-clause-fills c = λ t pair is bits xs f. grind (arith, common_steps)
