-- One row more.
use Rattle.std.proofs.Common.{◌++◌, ◌∙◌, ap, length, sym, append-nil, arith}
use Rattle.std.proofs.lemmas.List.{with_items_is}
use Rattle.picture_settings.proofs.Ranges.{joined}
use Rattle.grid_pictures.specs.Texts.{repeated, text_bytes, text_of, text_row}
use Rattle.grid_pictures.proofs.LetteringLemmas.{row_bytes, rows_next, rows_none}
use Rattle.grid_pictures.proofs.text.push_text.Goals as goal

pub loop-row-init : goal.loop-row-init
loop-row-init c = record {
  added = sym (append-nil c.args.bytes.now.items) ∙ ap (λ l. c.args.bytes.now.items ++ l) (sym (rows_none (text_of c.args.text.now)));
  long = omega (arith, c.in_ok-line.ensures.long, c.div_ceil.ensures);
}

pub loop-row-preserved : goal.loop-row-preserved
loop-row-preserved c =
    let t = text_of c.args.text.now in
    let row = c.loop-row.row in
    let written = with_items_is c.loop-row.line c.write_text_row.new.line (omega (arith, c.write_text_row.auto.line, c.as_mut_slice.ensures.len))
    ∙ c.write_text_row.ensures in
    record {
      added = joined c.args.bytes.now.items (text_bytes t row) _ (repeated t.size (text_row t row)) _ _ (rows_next t row) c.loop-row.invariant.added
          (c.in_ok-push_times.ensures ∙ ap (λ l. c.loop-row.bytes.items ++ repeated t.size l) (c.deref.ensures.value ∙ written));
      long = ap length written ∙ row_bytes t row;
    }
