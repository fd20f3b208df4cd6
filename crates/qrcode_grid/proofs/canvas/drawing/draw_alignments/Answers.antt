use Rattle.qrcode_grid.proofs.Prelude.{◌≡◌, ℕ, ◌<◌, ◌≤◌, ◌+◌, ◌-◌, ◌*◌, suc, get_or, ap, ◌∙◌, sym, subst, arith, Some, mul-add-lt, drawn_over, alignments}
use Rattle.qrcode_grid.proofs.Prelude.{alignment_coordinates, alignment_count, near, alignment_at, Empty}
use Rattle.qrcode_grid.proofs.RegionRows.{behind, behind_before, cells_inside, behind_within, none_between, none_behind, no_pattern, no_pattern_row}
use Rattle.qrcode_grid.proofs.RegionRows.{centers_count, center_is, no_alignments}
use Rattle.qrcode_grid.proofs.Prelude.{List, length, All}
use Rattle.qrcode_grid.proofs.WrittenWords.{CellsChanged, row_between, cell_changed, row_ends, rows_between, rows_end}
use Rattle.qrcode_grid.proofs.GridLaws.{near_center}
use Rattle.qrcode_grid.proofs.canvas.drawing.draw_alignments.Goals as goal

pub returns-then-has_none : goal.returns-then-has_none
returns-then-has_none c = grind (arith, no_alignments)

pub loop-y-init : goal.loop-y-init
loop-y-init c =
    let n = c.args.n in let w = c.args.width in
    let centers = c.alignment_centers-centers in
    let row : c.loop-j.j < alignment_count n =
    omega (arith, c.len-j-end.ensures.value, centers_count n centers.result.items centers.ensures.is, c.loop-j-test.true) in
    let is = center_is n c.loop-j.j c.deref.result.now centers.result.items c.deref.ensures.0 centers.ensures.is row in
    rows_between (λ x y m. drawn_over (alignments w (alignment_coordinates n) x y) m) w (behind n c.loop-j.j)
    (get_or c.deref.result.now c.loop-j.j 0 - 2) c.args.modules.now c.loop-j.modules
    (omega (arith, c.requires.wide)) (omega (arith, is, behind_before n c.loop-j.j c.requires.number row))
    (λ x y l low last m. ap (λ o. drawn_over o m) (no_pattern_row w (near (alignment_coordinates n) x) (near (alignment_coordinates n) y) x y
    (none_between n c.loop-j.j y c.requires.number row low (omega (arith, is, last)))))
    c.loop-j.invariant

pub loop-x-init : goal.loop-x-init
loop-x-init c =
    let n = c.args.n in let w = c.args.width in
    let centers = c.alignment_centers-centers in
    let column : c.loop-k.k < alignment_count n =
    omega (arith, c.len-k-end.ensures.value, centers_count n centers.result.items centers.ensures.is, c.loop-k-test.true) in
    let is = center_is n c.loop-k.k c.deref-in-loop-k.result.now centers.result.items c.deref-in-loop-k.ensures.0 centers.ensures.is column in
    row_between (λ x y m. drawn_over (alignments w (alignment_coordinates n) x y) m) w c.loop-y.y (behind n c.loop-k.k)
    (get_or c.deref-in-loop-k.result.now c.loop-k.k 0 - 2) c.args.modules.now c.loop-k.modules
    (omega (arith, is, behind_before n c.loop-k.k c.requires.number column))
    (omega (arith, is, c.requires.wide, (cells_inside n c.loop-k.k c.requires.number column).1))
    (λ x low last m. ap (λ o. drawn_over o m) (no_pattern w (near (alignment_coordinates n) x) (near (alignment_coordinates n) c.loop-y.y) x c.loop-y.y
    (none_between n c.loop-k.k x c.requires.number column low (omega (arith, is, last)))))
    c.loop-k.invariant

inside_cell : (w x y long size : ℕ) → x < w → y < w → long ≡ size → size ≡ w * w → y * w + x < long
inside_cell w x y long size column row same square = let cell = mul-add-lt y w x w row column in omega (arith, cell)

-- the cells of a pattern are in the grid
in_pattern : (n w k at : ℕ) (xs centers : List ℕ) → w ≡ 4 * n + 17 → xs ≡ centers →
    All (λ center. (2 ≤ center) × (center + 3 ≤ 4 * n + 17)) centers → k < length centers → at < get_or xs k 0 + 3 → at < w
in_pattern n w k at xs centers wide same inside h near =
    omega (arith, wide, near, ap (λ (ys : List ℕ). get_or ys k 0) same, (inside k 0 h).1)

pub bounds-modules-i-in-loop-x : goal.bounds-modules-i-in-loop-x
bounds-modules-i-in-loop-x c =
    let n = c.args.n in let w = c.args.width in let centers = c.alignment_centers-centers in
    let column : c.loop-k.k < length centers.result.items = omega (arith, c.len-k-end.ensures.value, c.loop-k-test.true) in
    let row : c.loop-j.j < length centers.result.items = omega (arith, c.len-j-end.ensures.value, c.loop-j-test.true) in
    inside_cell w c.loop-x.x c.loop-y.y _ _
    (in_pattern n w c.loop-k.k c.loop-x.x c.deref-in-loop-k.result.now centers.result.items c.requires.wide c.deref-in-loop-k.ensures.0
    centers.ensures.inside column c.loop-x-test.true)
    (in_pattern n w c.loop-j.j c.loop-y.y c.deref.result.now centers.result.items c.requires.wide c.deref.ensures.0
    centers.ensures.inside row c.loop-y-test.true) c.loop-x.invariant.size c.requires.square

pub bounds-modules-i : goal.bounds-modules-i
bounds-modules-i c =
    let n = c.args.n in let w = c.args.width in let centers = c.alignment_centers-centers in
    let column : c.loop-k.k < length centers.result.items = omega (arith, c.len-k-end.ensures.value, c.loop-k-test.true) in
    let row : c.loop-j.j < length centers.result.items = omega (arith, c.len-j-end.ensures.value, c.loop-j-test.true) in
    inside_cell w c.loop-x.x c.loop-y.y _ _
    (in_pattern n w c.loop-k.k c.loop-x.x c.deref-in-loop-k.result.now centers.result.items c.requires.wide c.deref-in-loop-k.ensures.0
    centers.ensures.inside column c.loop-x-test.true)
    (in_pattern n w c.loop-j.j c.loop-y.y c.deref.result.now centers.result.items c.requires.wide c.deref.ensures.0
    centers.ensures.inside row c.loop-y-test.true) c.loop-x.invariant.size c.requires.square

pub loop-x-preserved : goal.loop-x-preserved
loop-x-preserved c =
    let n = c.args.n in let w = c.args.width in
    let x = c.loop-x.x in let y = c.loop-y.y in let cs = alignment_coordinates n in let centers = c.alignment_centers-centers in
    let column : c.loop-k.k < length centers.result.items = omega (arith, c.len-k-end.ensures.value, c.loop-k-test.true) in
    let row : c.loop-j.j < length centers.result.items = omega (arith, c.len-j-end.ensures.value, c.loop-j-test.true) in
    let count = centers_count n centers.result.items centers.ensures.is in
    let counted_x : c.loop-k.k < alignment_count n = omega (arith, column, count) in
    let counted_y : c.loop-j.j < alignment_count n = omega (arith, row, count) in
    let is_x = center_is n c.loop-k.k c.deref-in-loop-k.result.now centers.result.items c.deref-in-loop-k.ensures.0 centers.ensures.is counted_x in
    let is_y = center_is n c.loop-j.j c.deref.result.now centers.result.items c.deref.ensures.0 centers.ensures.is counted_y in
    let near_x = near_center n c.loop-k.k x c.requires.number counted_x (omega (arith, is_x, c.loop-x-test.true, c.loop-x.auto.x)) in
    let near_y = near_center n c.loop-j.j y c.requires.number counted_y (omega (arith, is_y, c.loop-y-test.true, c.loop-y.auto.y)) in
    cell_changed (λ x y m. drawn_over (alignments w (alignment_coordinates n) x y) m) w y x c.args.modules.now c.loop-x.modules _ c.index-modules-i.result
    (in_pattern n w c.loop-k.k x c.deref-in-loop-k.result.now centers.result.items c.requires.wide c.deref-in-loop-k.ensures.0
    centers.ensures.inside column c.loop-x-test.true)
    (in_pattern n w c.loop-j.j y c.deref.result.now centers.result.items c.requires.wide c.deref.ensures.0
    centers.ensures.inside row c.loop-y-test.true) c.requires.square
    (c.drawn.ensures ∙ ap (drawn_over c.alignments_color-color.result) c.index-modules-i.is
    ∙ ap (λ o. drawn_over o (get_or c.loop-x.modules (y * w + x) c.index-modules-i.result)) (c.alignments_color-color.ensures
    ∙ ap (λ o. alignment_at w o (Some (get_or c.deref.result.now c.loop-j.j 0)) x y) (ap Some is_x ∙ sym near_x)
    ∙ ap (λ o. alignment_at w (near cs x) o x y) (ap Some is_y ∙ sym near_y))) c.loop-x.invariant

pub loop-k-preserved : goal.loop-k-preserved
loop-k-preserved c =
    let n = c.args.n in let k = c.loop-k.k in let w = c.args.width in
    let next : k + 1 ≡ suc k = omega arith in let centers = c.alignment_centers-centers in
    let column : k < alignment_count n =
    omega (arith, c.len-k-end.ensures.value, centers_count n centers.result.items centers.ensures.is, c.loop-k-test.true) in
    let is = center_is n k c.deref-in-loop-k.result.now centers.result.items c.deref-in-loop-k.ensures.0 centers.ensures.is column in
    let last : c.loop-y.y * w + c.loop-x.x ≡ c.loop-y.y * w + behind n (k + 1) =
    omega (arith, is, ap (behind n) next, c.loop-x-test.false, c.loop-x.auto.x-end) in
    subst (λ (i : ℕ). CellsChanged (λ x y m. drawn_over (alignments w (alignment_coordinates n) x y) m) w c.args.modules.now
    c.loop-x.modules i) last c.loop-x.invariant

pub loop-y-preserved : goal.loop-y-preserved
loop-y-preserved c =
    let n = c.args.n in let w = c.args.width in
    let y = c.loop-y.y in let cs = alignment_coordinates n in
    let centers = c.alignment_centers-centers in
    let last : c.loop-k.k ≡ alignment_count n =
    omega (arith, c.len-k-end.ensures.value, centers_count n centers.result.items centers.ensures.is, c.loop-k-test.false, c.loop-k.auto.k-end) in
    row_ends (λ x y m. drawn_over (alignments w (alignment_coordinates n) x y) m) w y (behind n c.loop-k.k) c.args.modules.now c.loop-k.modules
    (omega (arith, c.requires.wide, behind_within n c.loop-k.k c.requires.number (omega (arith, last))))
    (λ x low l m. ap (λ o. drawn_over o m) (no_pattern w (near cs x) (near cs y) x y
    (none_behind n x c.requires.number (omega (arith, low, ap (behind n) last)))))
    c.loop-k.invariant

pub loop-j-preserved : goal.loop-j-preserved
loop-j-preserved c =
    let n = c.args.n in let j = c.loop-j.j in let w = c.args.width in
    let next : j + 1 ≡ suc j = omega arith in let centers = c.alignment_centers-centers in
    let row : j < alignment_count n =
    omega (arith, c.len-j-end.ensures.value, centers_count n centers.result.items centers.ensures.is, c.loop-j-test.true) in
    let is = center_is n j c.deref.result.now centers.result.items c.deref.ensures.0 centers.ensures.is row in
    let last : c.loop-y.y ≡ behind n (j + 1) =
    omega (arith, is, ap (behind n) next, c.loop-y-test.false, c.loop-y.auto.y-end) in
    subst (λ (i : ℕ). CellsChanged (λ x y m. drawn_over (alignments w (alignment_coordinates n) x y) m) w c.args.modules.now c.loop-y.modules
    (i * w)) last c.loop-y.invariant

pub returns : goal.returns
returns c =
    let n = c.args.n in let w = c.args.width in
    let cs = alignment_coordinates n in
    let centers = c.alignment_centers-centers in
    let last : c.loop-j.j ≡ alignment_count n =
    omega (arith, c.len-j-end.ensures.value, centers_count n centers.result.items centers.ensures.is, c.loop-j-test.false, c.loop-j.auto.j-end) in
    rows_end (λ x y m. drawn_over (alignments w (alignment_coordinates n) x y) m) w w c.args.modules.now c.loop-j.modules Empty (omega arith) c.requires.square
    (rows_between (λ x y m. drawn_over (alignments w (alignment_coordinates n) x y) m) w (behind n c.loop-j.j) w c.args.modules.now c.loop-j.modules
    (omega (arith, c.requires.wide)) (omega (arith, c.requires.wide, behind_within n c.loop-j.j c.requires.number (omega (arith, last))))
    (λ x y l low h m. ap (λ o. drawn_over o m) (no_pattern_row w (near cs x) (near cs y) x y
    (none_behind n y c.requires.number (omega (arith, low, ap (behind n) last)))))
    c.loop-j.invariant)
