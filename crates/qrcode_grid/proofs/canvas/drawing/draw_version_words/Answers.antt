use Rattle.qrcode_grid.proofs.Prelude.{◌+◌, ◌*◌, ◌-◌, get_or, ap, ◌∙◌, arith, drawn_over, version_copies, Empty}
use Rattle.qrcode_grid.proofs.WrittenWords.{row_begins, cell_changed, row_ends, rows_between, rows_end}
use Rattle.qrcode_grid.proofs.RegionRows.{no_version, no_version_before, no_version_behind, no_version_between, no_version_beside, no_version_below}
use Rattle.qrcode_grid.proofs.canvas.drawing.draw_version_words.Goals as goal

pub loop-x-init : goal.loop-x-init
loop-x-init c =
    let n = c.args.n in let w = c.args.width in
    row_begins (λ x y m. drawn_over (version_copies n x y) m) w c.loop-y.y (w - 11) c.args.modules.now c.loop-y.modules (omega arith)
    (λ x h m. ap (λ o. drawn_over o m) (no_version_before n x c.loop-y.y c.if-has_none.false c.loop-y-test.true
    (omega (arith, h, c.requires.wide, c.if-has_none.false)))) c.loop-y.invariant

pub loop-x-preserved : goal.loop-x-preserved
loop-x-preserved c =
    let n = c.args.n in let w = c.args.width in
    cell_changed (λ x y m. drawn_over (version_copies n x y) m) w c.loop-y.y c.loop-x.x c.args.modules.now c.loop-x.modules _ c.index-modules-i.result
    (omega (arith, c.loop-x-test.true)) (omega (arith, c.loop-y-test.true, c.requires.wide)) c.requires.square
    (c.drawn.ensures ∙ ap (drawn_over c.version_color.result) c.index-modules-i.is
    ∙ ap (λ o. drawn_over o (get_or c.loop-x.modules (c.loop-y.y * w + c.loop-x.x) c.index-modules-i.result)) c.version_color.ensures) c.loop-x.invariant

pub loop-y-preserved : goal.loop-y-preserved
loop-y-preserved c =
    let n = c.args.n in let w = c.args.width in
    row_ends (λ x y m. drawn_over (version_copies n x y) m) w c.loop-y.y c.loop-x.x c.args.modules.now c.loop-x.modules (omega (arith, c.loop-x.auto.x-end))
    (λ x low l m. ap (λ o. drawn_over o m) (no_version_behind n x c.loop-y.y c.if-has_none.false c.loop-y-test.true
    (omega (arith, low, c.loop-x-test.false, c.requires.wide)))) c.loop-x.invariant

pub loop-row-init : goal.loop-row-init
loop-row-init c =
    let n = c.args.n in let w = c.args.width in
    rows_between (λ x y m. drawn_over (version_copies n x y) m) w c.loop-y.y (w - 11) c.args.modules.now c.loop-y.modules (omega (arith, c.requires.wide))
    (omega (arith, c.loop-y.auto.y-end, c.requires.wide, c.if-has_none.false))
    (λ x y l low high m. ap (λ o. drawn_over o m) (no_version_between n x y (omega (arith, low, c.loop-y-test.false))
    (omega (arith, high, c.requires.wide)))) c.loop-y.invariant

pub loop-column-preserved : goal.loop-column-preserved
loop-column-preserved c =
    let n = c.args.n in let w = c.args.width in
    cell_changed (λ x y m. drawn_over (version_copies n x y) m) w c.loop-row.row c.loop-column.column c.args.modules.now c.loop-column.modules _
    c.index-modules-i-in-loop-column.result
    (omega (arith, c.loop-column-test.true, c.requires.wide)) (omega (arith, c.loop-row-test.true)) c.requires.square
    (c.drawn-in-loop-column.ensures ∙ ap (drawn_over c.version_color-in-loop-column.result) c.index-modules-i-in-loop-column.is
    ∙ ap (λ o. drawn_over o (get_or c.loop-column.modules (c.loop-row.row * w + c.loop-column.column) c.index-modules-i-in-loop-column.result))
    c.version_color-in-loop-column.ensures) c.loop-column.invariant

pub loop-row-preserved : goal.loop-row-preserved
loop-row-preserved c =
    let n = c.args.n in let w = c.args.width in
    row_ends (λ x y m. drawn_over (version_copies n x y) m) w c.loop-row.row c.loop-column.column c.args.modules.now c.loop-column.modules
    (omega (arith, c.loop-column.auto.column-end, c.requires.wide))
    (λ x low l m. ap (λ o. drawn_over o m) (no_version_beside n x c.loop-row.row c.if-has_none.false (omega (arith, c.loop-row.auto.row, c.requires.wide))
    (omega (arith, low, c.loop-column-test.false)))) c.loop-column.invariant

pub returns : goal.returns
returns c =
    let n = c.args.n in let w = c.args.width in
    rows_end (λ x y m. drawn_over (version_copies n x y) m) w w c.args.modules.now c.loop-row.modules Empty (omega arith) c.requires.square
    (rows_between (λ x y m. drawn_over (version_copies n x y) m) w c.loop-row.row w c.args.modules.now c.loop-row.modules (omega (arith, c.requires.wide))
    (omega (arith, c.loop-row.auto.row-end))
    (λ x y l low h m. ap (λ o. drawn_over o m) (no_version_below n x y c.if-has_none.false
    (omega (arith, low, c.loop-row-test.false, c.requires.wide)))) c.loop-row.invariant)

pub returns-then-has_none : goal.returns-then-has_none
returns-then-has_none c = grind (arith, no_version)
