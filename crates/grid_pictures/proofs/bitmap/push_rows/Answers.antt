-- One row of pixels more.
use Rattle.std.proofs.Common.{◌+◌, ◌*◌, ◌++◌, ◌∙◌, ap, sym, arith}
use Rattle.std.proofs.lemmas.List.{with_items_is}
use Rattle.picture_settings.proofs.Ranges.{joined}
use Rattle.grid_pictures.{specs.Picture.shown, specs.Bitmaps.first_rows, specs.Bitmaps.bitmap_row, proofs.BitmapLemmas.rows_copy}
use Rattle.grid_pictures.proofs.bitmap.push_rows.Goals as goal

pub loop-copy-preserved : goal.loop-copy-preserved
loop-copy-preserved c =
    let p = shown c.args.picture.now in
    let row = c.loop-row.row in
    let scale = c.scale-scale.result in
    let written = with_items_is c.loop-row.line c.write_row.new.line (omega (arith, c.write_row.auto.line, c.as_mut_slice.ensures.len)) in
    joined c.args.bytes.now.items (first_rows p (row * scale + c.loop-copy.copy)) _ (bitmap_row p (row * scale)) _ _
    (rows_copy p scale row c.loop-copy.copy (sym c.scale-scale.ensures.exact) c.loop-copy-test.true)
    c.loop-copy.invariant
    (c.in_ok-extend_from_slice.ensures.items
    ∙ ap (λ l. c.loop-copy.bytes.items ++ l) (c.deref.ensures.value ∙ written ∙ c.write_row.ensures))
