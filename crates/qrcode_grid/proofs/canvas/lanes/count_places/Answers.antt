use Rattle.qrcode_grid.proofs.Prelude.{◌≡◌, ◌≤◌, ◌<◌, ◌+◌, ◌-◌, ◌*◌, ◌/◌, ◌∙◌, ap, arith, min, get_or, count_below, ℕ, Bool}
use Rattle.qrcode_grid.specs.Scoring.{has_byte}
use Rattle.qrcode_grid.proofs.MarkedLanes.{count_below_le}
use Rattle.qrcode_grid.proofs.ByteLanes.{block_counted, block_begins, block_ends, blocks_within}
use Rattle.qrcode_grid.proofs.canvas.lanes.count_places.Goals as goal

-- the count up to the end of a block
counted : (p : ℕ → Bool) (places b s total more : ℕ) → b < (places + 255) / 256 → s ≡ min ((places - 256 * b) / 16) 16 →
    total ≡ count_below p (min (256 * b) (places / 16 * 16)) → count_below p (256 * b) + more ≡ count_below p (256 * b + s * 16) →
    total + more ≡ count_below p (min (256 * (b + 1)) (places / 16 * 16))
counted p places b s total more h is before e =
    ap (λ t. t + more) (before ∙ ap (count_below p) (block_begins places b h)) ∙ e ∙ ap (count_below p) (block_ends places b s h is)

next : (c : goal.After-totals) →
    c.loop-block.total + get_or c.totals.result 0 0 ≡
    count_below (has_byte c.args.squares c.args.upper.now c.args.lower.now)
    (min (256 * (c.loop-block.block + 1)) (c.args.places / 16 * 16))
next c =
    let p : ℕ → Bool = has_byte c.args.squares c.args.upper.now c.args.lower.now in
    let b = c.loop-block.block in let s = c.loop-i.i in
    let is : s ≡ min ((c.args.places - 256 * b) / 16) 16 = omega (arith, c.min-i-end.ensures, c.loop-i-test.false, c.loop-i.auto.i-end) in
    let few : s ≤ 16 = grind (arith, is) in
    let block = block_counted c.loop-i.rows p (256 * b) s few c.loop-i.invariant.found c.loop-i.invariant.left in
    counted p c.args.places b s c.loop-block.total (get_or c.totals.result 0 0) c.loop-block-test.true is c.loop-block.invariant
    (omega (arith, c.totals.ensures 0 (omega arith), c.add_rows.ensures.more 0 (omega arith), c.no_bits.ensures.none 0 (omega arith), block))

pub overflow_add-total : goal.overflow_add-total
overflow_add-total c =
    grind (
      arith,
      next c,
      count_below_le (has_byte c.args.squares c.args.upper.now c.args.lower.now) (min (256 * (c.loop-block.block + 1)) (c.args.places / 16 * 16)),
      blocks_within c.args.places (c.loop-block.block + 1),
    )

pub loop-block-preserved : goal.loop-block-preserved
loop-block-preserved c = next c

pub overflow_add-total-in-loop-at : goal.overflow_add-total-in-loop-at
overflow_add-total-in-loop-at c =
    grind (arith, c.loop-at.invariant, count_below_le (has_byte c.args.squares c.args.upper.now c.args.lower.now) c.loop-at.at, c.from.ensures)
