use Rattle.qrcode_grid.proofs.Prelude.{◌≡◌, ℕ, ◌+◌, ◌*◌, ◌/◌, length, get_or, count_by, not, ◌==◌, ap, ◌∙◌, sym, arith, abs_diff, bit_at, bit_at-zero, row}
use Rattle.qrcode_grid.proofs.Prelude.{column, line_penalty, IsPadded, is_dark_byte, plane}
use Rattle.qrcode_grid.proofs.PaddedCounts.{columns_are, rows_are, squares_are, darks_are}
use Rattle.qrcode_grid.proofs.Prelude.{◌≤◌, List, count_below, has_five, has_six, places, cell}
use Rattle.qrcode_grid.proofs.MarkedLanes.{count_both_le}
use Rattle.qrcode_grid.proofs.{MarkedLanes.length-plane, MarkedLanes.plane_at, MarkedLanes.plane_small, Totals.total-plus}
use Rattle.qrcode_grid.proofs.canvas.scoring.penalties_of_normal.Goals as goal

-- where six equal modules begin, five do
fewer_sixes : (w step : ℕ) (twins : List ℕ) → count_below (has_six step twins) (places w) ≤ count_below (has_five step twins) (places w)
fewer_sixes w step twins = count_both_le (has_five step twins) (λ k. cell step twins k 4 == 1) (places w)

pub returns : goal.returns
returns c = λ m h.
    let w = c.args.width in let grid = c.args.grid.now in let cells = plane m grid in
    let list = c.write_padded.new.padded in let padded = plane m list in let is = c.write_padded.ensures in
    let first = plane m c.write_twins.new.twins in let second = plane m c.write_twins-2.new.twins in
    let square : length cells ≡ w * w = length-plane m grid ∙ c.requires.square in
    let light : (k : ℕ) → get_or list k 0 ≡ 0 → get_or padded k 0 ≡ 0 = λ k e. plane_at m list k ∙ ap (λ b. bit_at b m) e ∙ bit_at-zero m in
    let stands : IsPadded w cells padded = record {
      grid = λ x y hx hy. plane_at m list ((4 + y) * (w + 4) + x) ∙ ap (λ b. bit_at b m) (is.grid x y hx hy) ∙ sym (plane_at m grid (y * w + x));
      beside = λ x y hx l. light (y * (w + 4) + x) (is.beside x y hx l);
      above = λ k l. light k (is.above k l);
      below = λ k l. light k (is.below k l);
    } in
    let twins = c.write_twins-2.ensures.twins m h in
    let darks = darks_are w cells padded stands square second (plane_small m grid) in
    let balance : abs_diff (200 * get_or c.count-darks.result m 0 / (w * w)) 100 ≡ abs_diff (200 * count_by (λ m. not (m == 0)) cells / length cells) 100 =
    ap (λ n. abs_diff (200 * n / (w * w)) 100) (c.count-darks.ensures.is m h ∙ darks)
    ∙ ap (λ n. abs_diff (200 * count_by is_dark_byte cells / n) 100) (sym square) in
    omega (
      arith,
      c.loop-m.invariant.found m (omega (arith, h, c.loop-m-test.false)),
      c.penalties_of_lines-columns.ensures.is m h,
      fewer_sixes w (w + 4) first,
      columns_are w cells padded stands square first (c.write_twins.ensures.twins m h),
      c.penalties_of_lines-rows.ensures.is m h,
      fewer_sixes w 1 second,
      rows_are w cells padded stands square second twins,
      c.count-squares.ensures.is m h,
      squares_are w cells padded stands square second twins (omega (arith, c.requires.wide.0)),
      total-plus (λ y. line_penalty (row w cells y)) (λ x. line_penalty (column w cells x)) w,
      balance,
    )
