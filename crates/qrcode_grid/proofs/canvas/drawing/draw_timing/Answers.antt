use Rattle.qrcode_grid.proofs.Prelude.{◌≡◌, ◌≢◌, ◌∙◌, ◌<◌, ◌+◌, ◌*◌, get_or, ap, arith, sym, Some, common_steps, drawn_over, timing, Empty}
use Rattle.qrcode_grid.proofs.WrittenWords.{row_begins, cell_changed, row_ends, rows_begin, rows_between, rows_end}
use Rattle.qrcode_grid.proofs.RegionRows.{no_timing_above, no_timing_below, no_timing_beside, no_timing_before, no_timing_behind}
use Rattle.qrcode_grid.proofs.canvas.drawing.draw_timing.Goals as goal

pub loop-x-init : goal.loop-x-init
loop-x-init c =
    let line = c.args.line in let from = c.args.from in let to = c.args.to in let w = c.args.width in
    row_begins (λ x y m. drawn_over (timing line from to x y) m) w line from c.args.modules.now c.args.modules.now
    (omega (arith, c.requires.lines)) (λ x h m. ap (λ o. drawn_over o m) (no_timing_before line from to x c.requires.lines.0 h))
    (rows_between (λ x y m. drawn_over (timing line from to x y) m) w 0 line c.args.modules.now c.args.modules.now
    (omega (arith, c.requires.lines)) (omega arith)
    (λ x y l low high m. let other : y ≢ line = omega (arith, high) in
    ap (λ o. drawn_over o m) (no_timing_above line from to x y other (omega (arith, high, c.requires.lines))))
    (rows_begin (λ x y m. drawn_over (timing line from to x y) m) w c.args.modules.now))

pub loop-x-preserved : goal.loop-x-preserved
loop-x-preserved c =
    let line = c.args.line in let from = c.args.from in let to = c.args.to in let w = c.args.width in
    let on : timing line from to c.loop-x.x line ≡ Some c.if-x-line-eq0.color = grind (arith, common_steps) in
    cell_changed (λ x y m. drawn_over (timing line from to x y) m) w line c.loop-x.x c.args.modules.now c.loop-x.modules _ Empty
    (omega (arith, c.loop-x-test.true, c.requires.lines)) (omega (arith, c.requires.lines)) c.requires.square
    (c.masked.ensures ∙ ap (λ o. drawn_over o (get_or c.loop-x.modules (line * w + c.loop-x.x) Empty)) (sym on)) c.loop-x.invariant

pub loop-y-init : goal.loop-y-init
loop-y-init c =
    let line = c.args.line in let from = c.args.from in let to = c.args.to in let w = c.args.width in
    rows_between (λ x y m. drawn_over (timing line from to x y) m) w (line + 1) from c.args.modules.now c.loop-x.modules (omega (arith, c.requires.lines))
    (omega (arith, c.requires.lines))
    (λ x y l low high m. let other : y ≢ line = omega (arith, low) in ap (λ o. drawn_over o m) (no_timing_above line from to x y other high))
    (row_ends (λ x y m. drawn_over (timing line from to x y) m) w line c.loop-x.x c.args.modules.now c.loop-x.modules
    (omega (arith, c.loop-x.auto.x-end, c.requires.lines))
    (λ x low l m. ap (λ o. drawn_over o m) (no_timing_behind line from to x c.requires.lines.0 (omega (arith, low, c.loop-x-test.false)))) c.loop-x.invariant)

pub loop-y-preserved : goal.loop-y-preserved
loop-y-preserved c =
    let line = c.args.line in let from = c.args.from in let to = c.args.to in let w = c.args.width in
    let y = c.loop-y.y in
    let row : y < w = omega (arith, c.loop-y-test.true, c.requires.lines) in
    let column : line < w = omega (arith, c.requires.lines) in
    let other : y ≢ line = omega (arith, c.loop-y.auto.y, c.requires.lines) in
    let on : timing line from to line y ≡ Some c.if-line-y-eq0.color = grind (arith, common_steps) in
    row_ends (λ x y m. drawn_over (timing line from to x y) m) w y (line + 1) c.args.modules.now _ (omega (arith, column))
    (λ x low l m. let beside : x ≢ line = omega (arith, low) in ap (λ o. drawn_over o m) (no_timing_beside line from to x y other beside))
    (cell_changed (λ x y m. drawn_over (timing line from to x y) m) w y line c.args.modules.now c.loop-y.modules _ Empty column row c.requires.square
    (c.masked-in-loop-y.ensures ∙ ap (λ o. drawn_over o (get_or c.loop-y.modules (y * w + line) Empty)) (sym on))
    (row_begins (λ x y m. drawn_over (timing line from to x y) m) w y line c.args.modules.now c.loop-y.modules (omega (arith, column))
    (λ x h m. let beside : x ≢ line = omega (arith, h) in ap (λ o. drawn_over o m) (no_timing_beside line from to x y other beside)) c.loop-y.invariant))

pub returns : goal.returns
returns c =
    let line = c.args.line in let from = c.args.from in let to = c.args.to in let w = c.args.width in
    rows_end (λ x y m. drawn_over (timing line from to x y) m) w w c.args.modules.now c.loop-y.modules Empty (omega arith) c.requires.square
    (rows_between (λ x y m. drawn_over (timing line from to x y) m) w c.loop-y.y w c.args.modules.now c.loop-y.modules (omega (arith, c.requires.lines))
    (omega (arith, c.loop-y.auto.y-end, c.requires.lines))
    (λ x y l low h m. let other : y ≢ line = omega (arith, low, c.loop-y-test.false, c.requires.lines) in
    ap (λ o. drawn_over o m) (no_timing_below line from to x y other (omega (arith, low, c.loop-y-test.false)))) c.loop-y.invariant)
