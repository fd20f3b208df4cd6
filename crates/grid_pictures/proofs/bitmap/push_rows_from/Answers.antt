-- One row more.
use Rattle.std.proofs.Common.{◌≡◌, ◌-◌, ◌++◌, ◌∙◌, length, ap, sym, arith}
use Rattle.std.proofs.lemmas.List.{with_items_is}
use Rattle.picture_settings.proofs.Ranges.{joined}
use Rattle.grid_pictures.{specs.Picture.shown, specs.Bitmaps.rows_from, specs.Bitmaps.bitmap_row}
use Rattle.grid_pictures.proofs.BitmapLemmas.{row_long, row_next, rows_one}
use Rattle.grid_pictures.proofs.bitmap.push_rows_from.Goals as goal
use Rattle.grid_pictures.proofs.bitmap.push_rows_from.Goals.{then-y-first, else-y-first+else-y-scale-eq0}

pub loop-y-preserved : goal.loop-y-preserved
loop-y-preserved c =
    let p = shown c.args.picture.now in
    let y = c.loop-y.y in
    let first = c.args.first in
    let row : c.if-y-first.line.items ≡ bitmap_row p y =
    elim c.if-y-first.branch [
      | then-y-first w ↦
          ap (λ v. v.items) w.line-is
          ∙ (with_items_is c.loop-y.line w.write_row.new.line (omega (arith, w.write_row.auto.line, w.as_mut_slice.ensures.len)) ∙ w.write_row.ensures)
      | else-y-first+else-y-scale-eq0 w ↦ ap (λ v. v.items) w.line-is ∙ c.loop-y.invariant.line w.if-y-first.false w.if-y-scale-eq0.false
    ] in
    record {
      added = joined c.args.bytes.now.items (rows_from p first (y - first)) _ (bitmap_row p y) _ _
          (rows_one p first y c.loop-y.auto.y)
          c.loop-y.invariant.added
          (c.in_ok-extend_from_slice.ensures.items ∙ ap (λ l. c.loop-y.bytes.items ++ l) (c.deref.ensures.value ∙ row));
      long = ap length row ∙ row_long p y;
      line = λ other within. row ∙ sym (row_next p y (omega (arith, c.scale-scale.ensures.exact, c.scale-scale.ensures.at_least_one))
          (rw (← c.scale-scale.ensures.exact) within));
    }
