-- The digits of one row more.
use Rattle.std.proofs.Common.{◌≡◌, ◌-◌, ◌*◌, ◌++◌, ◌∙◌, length, ap, sym, arith}
use Rattle.std.specs.Prelude.{flat_map}
use Rattle.std.proofs.lemmas.List.{with_items_is}
use Rattle.picture_settings.proofs.Ranges.{joined}
use Rattle.grid_pictures.specs.{Picture.shown, Bitmaps.rows_from, Bitmaps.bitmap_row, Bitmaps.row_length}
use Rattle.grid_pictures.proofs.BitmapLemmas.{row_next}
use Rattle.qrcode_render.specs.Zpl.{hex_pair}
use Rattle.qrcode_render.proofs.BandLemmas.{digits_row}
use Rattle.qrcode_render.proofs.zpl.push_digits.Goals as goal
use Rattle.qrcode_render.proofs.zpl.push_digits.Goals.{then-y-first, else-y-first+else-y-scale-eq0}

pub loop-y-preserved : goal.loop-y-preserved
loop-y-preserved c =
    let p = shown c.args.picture.now in
    let y = c.loop-y.y in
    let first = c.args.first in
    let held : (length c.if-y-first.line.items ≡ row_length p) × (length c.if-y-first.digits.items ≡ 2 * row_length p)
    × (c.if-y-first.digits.items ≡ flat_map hex_pair (bitmap_row p y)) =
    elim c.if-y-first.branch [
      | then-y-first w ↦ (
          let line = with_items_is c.loop-y.line w.write_row.new.line (omega (arith, w.write_row.auto.line, w.as_mut_slice.ensures.len)) in
          let digits = with_items_is c.loop-y.digits w.write_hex.new.digits
          (omega (arith, w.write_hex.auto.digits, w.as_mut_slice-then-y-first.ensures.len)) in (
            ap (λ v. length v.items) w.line-is ∙ (ap length line ∙ omega (arith, w.write_row.auto.line, w.as_mut_slice.ensures.value, c.loop-y.invariant.long)),
            ap (λ v. length v.items) w.digits-is ∙ (ap length digits
                ∙ omega (arith, w.write_hex.auto.digits, ap length w.as_mut_slice-then-y-first.ensures.value, c.loop-y.invariant.twice)),
            ap (λ v. v.items) w.digits-is ∙ (digits
                ∙ (w.write_hex.ensures ∙ ap (flat_map hex_pair) (w.deref.ensures.value ∙ line ∙ w.write_row.ensures))),
          ))
      | else-y-first+else-y-scale-eq0 w ↦ (
        ap (λ v. length v.items) w.line-is ∙ c.loop-y.invariant.long,
        ap (λ v. length v.items) w.digits-is ∙ c.loop-y.invariant.twice,
        ap (λ v. v.items) w.digits-is ∙ c.loop-y.invariant.digits w.if-y-first.false w.if-y-scale-eq0.false,
      )
    ] in
    record {
      added = joined c.args.bytes.now.items (flat_map hex_pair (rows_from p first (y - first))) _ (flat_map hex_pair (bitmap_row p y)) _ _
          (digits_row p first y c.loop-y.auto.y)
          c.loop-y.invariant.added
          (c.in_ok-extend_from_slice.ensures.items ∙ ap (λ l. c.loop-y.bytes.items ++ l) (c.deref-in-loop-y.ensures.value ∙ held.2));
      long = held.0;
      twice = held.1;
      digits = λ other within. held.2 ∙ ap (flat_map hex_pair) (sym (row_next p y
          (omega (arith, c.scale-scale.ensures.exact, c.scale-scale.ensures.at_least_one)) (rw (← c.scale-scale.ensures.exact) within)));
    }
