use Rattle.qrcode_grid.proofs.Prelude.{◌≡◌, ℕ, ◌-◌, ◌≤◌, ◌<◌, ◌+◌, ◌*◌, max, Bool, true, refl, ◌∙◌, ap, sym, arith, [], ◌∷◌, Option, Some, None, abs_diff}
use Rattle.qrcode_grid.proofs.Prelude.{Color, Light, Dark, slice_get, get_or, drawn_over, finder, Empty, eqb, unwrap_or, option_map, byte_of}
use Rattle.qrcode_grid.proofs.FieldLaws.{passes_below, passes_below-at}
use Rattle.qrcode_grid.proofs.RegionRows.{far_before, far_behind, no_finder_column, no_finder_row}
use Rattle.qrcode_grid.proofs.WrittenWords.{row_begins, cell_changed, row_ends, rows_between, rows_end}
use Rattle.qrcode_grid.{specs.declared.canvas.drawing.TheConstants.FINDER}
use Rattle.qrcode_grid.proofs.canvas.drawing.draw_finder.Goals as goal

-- whether a cell has this colour
abbrev same : Option Color → Color → Bool
same o c = eqb (unwrap_or (option_map byte_of o) 2) (byte_of c)

same_is : (o : Option Color) (c : Color) → same o c ≡ true → o ≡ Some c
same_is None Light h = grind (arith, h)
same_is None Dark h = grind (arith, h)
same_is (Some Light) Light h = refl
same_is (Some Light) Dark h = grind (arith, h)
same_is (Some Dark) Light h = grind (arith, h)
same_is (Some Dark) Dark h = refl

abbrev table_at : ℕ → ℕ → Color
table_at row column = get_or (get_or FINDER row []) column Light

-- the table has the colours of the pattern, found by computing
table_is : (x y : ℕ) → x < 9 → y < 9 → finder 4 4 x y ≡ Some (table_at y x)
table_is x y column row =
    same_is _ _ (passes_below-at (λ x. same (finder 4 4 x y) (table_at y x)) 9 x
    (passes_below-at (λ y. passes_below 9 (λ x. same (finder 4 4 x y) (table_at y x))) 9 y refl row) column)

finder_at : (center_x center_y x y : ℕ) → center_x ≤ x + 4 → x < center_x + 5 → center_y ≤ y + 4 → y < center_y + 5 →
    finder center_x center_y x y ≡ Some (table_at (y + 4 - center_y) (x + 4 - center_x))
finder_at center_x center_y x y left right top bottom =
    let moved : max (abs_diff center_x x) (abs_diff center_y y) ≡ max (abs_diff 4 (x + 4 - center_x)) (abs_diff 4 (y + 4 - center_y)) = omega arith in
    ap (λ n. slice_get (Dark ∷ Dark ∷ Light ∷ Dark ∷ Light ∷ []) n) moved ∙ table_is (x + 4 - center_x) (y + 4 - center_y) (omega arith) (omega arith)

pub loop-x-init : goal.loop-x-init
loop-x-init c =
    row_begins (λ x y m. drawn_over (finder c.args.center_x c.args.center_y x y) m) c.args.width c.loop-y.y c.saturating_sub-left.result
    c.args.modules.now c.loop-y.modules
    (omega (arith, c.saturating_sub-left.ensures)) (λ x h m. ap (λ o. drawn_over o m)
    (no_finder_column c.args.center_x c.args.center_y x c.loop-y.y
    (far_before c.args.center_x c.saturating_sub-left.result x c.saturating_sub-left.ensures h))) c.loop-y.invariant

pub loop-x-preserved : goal.loop-x-preserved
loop-x-preserved c =
    let column : c.loop-x.x < c.args.width = omega (arith, c.loop-x-test.true, c.min-right.ensures) in
    let row : c.loop-y.y < c.args.width = omega (arith, c.loop-y-test.true, c.min-bottom.ensures) in
    cell_changed (λ x y m. drawn_over (finder c.args.center_x c.args.center_y x y) m) c.args.width c.loop-y.y c.loop-x.x
    c.args.modules.now c.loop-x.modules _ Empty
    column row c.requires.square (c.masked.ensures ∙ sym (ap (λ o. drawn_over o (get_or c.loop-x.modules (c.loop-y.y * c.args.width + c.loop-x.x) Empty))
    (finder_at c.args.center_x c.args.center_y c.loop-x.x c.loop-y.y (omega arith) (omega arith) (omega arith) (omega arith)))) c.loop-x.invariant

pub loop-y-preserved : goal.loop-y-preserved
loop-y-preserved c =
    let within : c.loop-x.x ≤ c.args.width = omega (arith, c.loop-x.auto.x-end, c.min-right.ensures, c.saturating_sub-left.ensures) in
    row_ends (λ x y m. drawn_over (finder c.args.center_x c.args.center_y x y) m) c.args.width c.loop-y.y c.loop-x.x c.args.modules.now c.loop-x.modules
    within (λ x h l m. ap (λ o. drawn_over o m)
    (no_finder_column c.args.center_x c.args.center_y x c.loop-y.y
    (far_behind c.args.center_x c.min-right.result c.args.width x c.min-right.ensures (omega arith) l))) c.loop-x.invariant

pub returns : goal.returns
returns c =
    rows_end (λ x y m. drawn_over (finder c.args.center_x c.args.center_y x y) m) c.args.width c.args.width c.args.modules.now c.loop-y.modules Empty
    (omega arith) c.requires.square
    (rows_between (λ x y m. drawn_over (finder c.args.center_x c.args.center_y x y) m) c.args.width c.loop-y.y c.args.width c.args.modules.now c.loop-y.modules
    (omega (arith, c.requires.row)) (omega (arith, c.loop-y.auto.y-end, c.min-bottom.ensures, c.saturating_sub-top.ensures))
    (λ x y h l k m. ap (λ o. drawn_over o m)
    (no_finder_row c.args.center_x c.args.center_y x y
    (far_behind c.args.center_y c.min-bottom.result c.args.width y c.min-bottom.ensures (omega (arith, l, c.loop-y-test.false)) k))) c.loop-y.invariant)
