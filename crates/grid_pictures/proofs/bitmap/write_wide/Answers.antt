-- One byte more, and all of them.
use Rattle.std.proofs.Common.{◌≡◌, ◌+◌, ◌*◌, ◌<◌, ◌≤◌, ◌∙◌, length, take, get_or, refl, ap, sym, map, arith}
use Rattle.std.specs.List.{range_with_len}
use Rattle.grid_pictures.specs.{Bitmaps.pixel_byte, Bitmaps.row_length, Rows.dark_byte, Picture.shown}
use Rattle.grid_pictures.proofs.{RunLemmas.picture_byte}
use Rattle.grid_pictures.proofs.PackedLemmas.{column_inside, module_at, one_byte, one_module, two_modules, whole_line}
use Rattle.grid_pictures.proofs.bitmap.write_wide.Goals as goal
use Rattle.grid_pictures.proofs.bitmap.write_wide.Goals.{then-left-ge8, else-left-ge8}

pub bounds-modules-column : goal.bounds-modules-column
bounds-modules-column c =
    let p = shown c.args.picture.now in
    let inside = column_inside p c.scale-scale.result c.loop-place.column c.loop-place.place c.loop-place.left c.scale-scale.ensures.exact
    c.loop-place.invariant.edge c.loop-place.invariant.within (omega (arith, c.loop-place-test.true, c.loop-place.auto.line, c.requires.long)) in
    omega (arith, inside, c.columns-columns.ensures.exact, c.columns-columns.ensures.bound)

pub bounds-modules-column-else-left-ge8 : goal.bounds-modules-column-else-left-ge8
bounds-modules-column-else-left-ge8 c =
    let p = shown c.args.picture.now in
    let inside = column_inside p c.scale-scale.result c.loop-place.column c.loop-place.place c.loop-place.left c.scale-scale.ensures.exact
    c.loop-place.invariant.edge c.loop-place.invariant.within (omega (arith, c.loop-place-test.true, c.loop-place.auto.line, c.requires.long)) in
    omega (arith, inside, c.columns-columns.ensures.exact, c.columns-columns.ensures.bound)

pub overflow_add-line-else-left-ge8 : goal.overflow_add-line-else-left-ge8
overflow_add-line-else-left-ge8 c =
    let p = shown c.args.picture.now in
    let row = c.row-row.result in
    let modules = c.write_bytes.new.line in
    let column = c.loop-place.column in
    let inside = column_inside p c.scale-scale.result column c.loop-place.place c.loop-place.left c.scale-scale.ensures.exact
    c.loop-place.invariant.edge c.loop-place.invariant.within (omega (arith, c.loop-place-test.true, c.loop-place.auto.line, c.requires.long)) in
    let are : modules ≡ map (dark_byte row) (range_with_len 0 (length modules)) =
    c.write_bytes.ensures ∙ ap (λ n. map (dark_byte row) (range_with_len 0 n)) (sym c.write_bytes.auto.line) in
    let room : column + 1 < length modules = omega (arith, inside, c.columns-columns.ensures.exact, c.columns-columns.ensures.bound, c.write_bytes.auto.line) in
    let two = two_modules row c.scale-scale.result column c.loop-place.place c.loop-place.left (get_or modules column 0) (get_or modules (column + 1) 0)
    c.loop-place.invariant.edge c.loop-place.invariant.within (omega (arith, c.requires.wide, c.scale-scale.ensures.exact)) (omega (arith, c.if-left-ge8.false))
    (module_at row modules column are (omega (arith, room))) (module_at row modules (column + 1) are room) in
    omega (arith, two.fits)

pub loop-place-preserved : goal.loop-place-preserved
loop-place-preserved c =
    let p = shown c.args.picture.now in
    let row = c.row-row.result in
    let scale = c.scale-scale.result in
    let place = c.loop-place.place in
    let modules = c.write_bytes.new.line in
    let column = c.loop-place.column in
    let left = c.loop-place.left in
    let edge = c.loop-place.invariant.edge in
    let here : place < length c.loop-place.line = omega (arith, c.loop-place-test.true, c.loop-place.auto.line) in
    let inside = column_inside p scale column place left c.scale-scale.ensures.exact edge c.loop-place.invariant.within
    (omega (arith, here, c.loop-place.auto.line, c.requires.long)) in
    let are : modules ≡ map (dark_byte row) (range_with_len 0 (length modules)) =
    c.write_bytes.ensures ∙ ap (λ n. map (dark_byte row) (range_with_len 0 n)) (sym c.write_bytes.auto.line) in
    let room : column + 1 < length modules = omega (arith, inside, c.columns-columns.ensures.exact, c.columns-columns.ensures.bound, c.write_bytes.auto.line) in
    let first = module_at row modules column are (omega (arith, room)) in
    let second = module_at row modules (column + 1) are room in
    let spells = picture_byte p row c.args.y place scale c.scale-scale.ensures.exact c.row-row.ensures.dark in
    let after : (take (place + 1) c.if-left-ge8.line ≡ map (pixel_byte p c.args.y) (range_with_len 0 (place + 1)))
    × ((c.if-left-ge8.column + 1) * scale ≡ 8 * (place + 1) + c.if-left-ge8.left) × (c.if-left-ge8.left ≤ scale) =
    elim c.if-left-ge8.branch [
      | then-left-ge8 w ↦ (
        ap (take (place + 1)) w.line-is
            ∙ one_byte p c.args.y place (place + 1) (get_or modules column 0) c.loop-place.line refl here c.loop-place.invariant.front
            (one_module row scale column place left (get_or modules column 0) edge c.loop-place.invariant.within w.if-left-ge8.true first ∙ spells),
        ap (λ k. (k + 1) * scale) w.column-is ∙ omega (arith, edge, w.left-is, w.if-left-ge8.true),
        omega (arith, w.left-is, c.loop-place.invariant.within),
      )
      | else-left-ge8 w ↦ (
          let wide : 8 ≤ scale = omega (arith, c.requires.wide, c.scale-scale.ensures.exact) in
          let two = two_modules row scale column place left (get_or modules column 0) (get_or modules (column + 1) 0) edge
          c.loop-place.invariant.within wide (omega (arith, w.if-left-ge8.false)) first second in
          let next : (column + 1 + 1) * scale ≡ (column + 1) * scale + scale = grind arith in (
            ap (take (place + 1)) w.line-is
                ∙ one_byte p c.args.y place (place + 1) _ c.loop-place.line refl here c.loop-place.invariant.front (two.is ∙ spells),
            ap (λ k. (k + 1) * scale) w.column-is ∙ omega (arith, edge, next, wide, w.left-is, w.if-left-ge8.false),
            omega (arith, w.left-is, wide, w.if-left-ge8.false),
          ))
    ] in
    record {
      front = after.0;
      edge = after.1;
      within = after.2;
    }

pub returns : goal.returns
returns c =
    let p = shown c.args.picture.now in
    let long : length c.loop-place.line ≡ row_length p = omega (arith, c.loop-place.auto.line, c.requires.long) in
    whole_line p c.args.y c.loop-place.place c.loop-place.line (omega (arith, long, c.loop-place-test.false, c.loop-place.auto.place-end)) long
    c.loop-place.invariant.front
