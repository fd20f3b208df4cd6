use Rattle.qrcode_grid.proofs.Prelude.{◌≡◌, ◌-◌, ◌*◌, ◌/◌, arith}
use Rattle.qrcode_grid.proofs.FillSteps.{more_rows}
use Rattle.qrcode_grid.proofs.canvas.data.draw_pair.Goals as goal

pub loop-part-preserved : goal.loop-part-preserved
loop-part-preserved c = record {
  fills = more_rows c.args.columns (4 * c.loop-part.part) 4 _ _ _ _ _ _ _ (omega arith) c.loop-part.invariant.fills c.draw_four-ahead.ensures.fills;
  small = c.draw_four-ahead.ensures.small;
}

pub returns-clause-fills : goal.returns-clause-fills
returns-clause-fills c =
    let w = c.args.columns.width in
    let last : c.loop-part.part ≡ w / 4 = omega (arith, c.loop-part-test.false, c.loop-part.auto.part-end) in
    let here : w / 4 * 4 ≡ 4 * c.loop-part.part = omega (arith, last) in
    more_rows c.args.columns (4 * c.loop-part.part) (w - w / 4 * 4) _ _ _ _ _ _ _ (omega (arith, last)) c.loop-part.invariant.fills
    (rw (← here) c.draw_rows.ensures.fills)
