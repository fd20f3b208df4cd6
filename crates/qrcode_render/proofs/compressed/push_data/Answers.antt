-- One row more, and all of them.
use Rattle.std.proofs.Common.{◌≡◌, ◌≢◌, ◌+◌, ◌*◌, ◌%◌, ◌∙◌, ◌∷◌, [], List, ℕ, ap, sym, subst, length, rules, arith}
use Rattle.std.proofs.lemmas.List.{with_items_is}
use Rattle.grid_pictures.specs.{Bitmaps.row_length, Picture.shown}
use Rattle.qrcode_render.specs.{Compressed.Compresses, CompressedData.AddsPiece, CompressedData.SaysRow, Zpl.row_digits}
use Rattle.qrcode_render.proofs.FieldLemmas.{SaysField, digits_of, field_again, field_none, field_row, field_whole}
use Rattle.qrcode_render.proofs.ReadingLemmas.{adds_as, adds_both, adds_more, adds_none}
use Rattle.qrcode_render.proofs.compressed.push_data.Goals as goal
use Rattle.qrcode_render.proofs.compressed.push_data.Goals.{then-is_repeated+in_ok-push, else-is_repeated+in_ok-push_new_row}

pub loop-y-init : goal.loop-y-init
loop-y-init c =
    record {
      added = adds_none (SaysField (shown c.args.picture.now) c.args.first c.args.first) c.args.bytes.now.items (field_none (shown c.args.picture.now) c.args.first);
      long = c.in_ok-line.ensures.long ∙ c.row_length.ensures.exact;
      twice = c.in_ok-digits.ensures.long ∙ ap (λ n. 2 * n) c.row_length-2.ensures.exact;
    }

pub loop-y-preserved : goal.loop-y-preserved
loop-y-preserved c =
    let p = shown c.args.picture.now in
    let first = c.args.first in
    let y = c.loop-y.y in
    elim c.if-is_repeated.branch [
      | then-is_repeated+in_ok-push w ↦ (
          let facts : (y ≢ first) × (y % c.scale-scale.result ≢ 0) = c.is_repeated.ensures.0 (search rules) in
          let within : y % p.scale ≢ 0 = rw (← c.scale-scale.ensures.exact) facts.1 in
          record {
            added = adds_more (SaysField p first y) (SaysField p first (y + 1)) c.args.bytes.now.items c.loop-y.bytes.items c.if-is_repeated.bytes.items (58 ∷ [])
                c.loop-y.invariant.added (ap (λ v. v.items) w.bytes-is ∙ w.in_ok-push.ensures.items)
                (λ before says. field_again p first y before c.loop-y.auto.y facts.0 (omega (arith, c.scale-scale.ensures.exact, c.scale-scale.ensures.at_least_one))
                (omega (arith, c.row_length.ensures.exact, c.row_length.ensures.some)) within says);
            long = ap (λ v. length v.items) w.line-is ∙ c.loop-y.invariant.long;
            twice = ap (λ v. length v.items) w.digits-is ∙ c.loop-y.invariant.twice;
          })
      | else-is_repeated+in_ok-push_new_row w ↦ (
          let line = with_items_is c.loop-y.line w.push_new_row.new.line (omega (arith, w.push_new_row.auto.line, w.as_mut_slice.ensures.len)) in
          let digits = with_items_is c.loop-y.digits w.push_new_row.new.digits
          (omega (arith, w.push_new_row.auto.digits, w.as_mut_slice-else-is_repeated.ensures.len)) in
          record {
            added = adds_both (SaysField p first y) (λ characters. (above : List ℕ) → SaysRow above (digits_of p y) characters) (SaysField p first (y + 1))
                c.args.bytes.now.items c.loop-y.bytes.items c.if-is_repeated.bytes.items c.loop-y.invariant.added
                (subst (λ (l : List ℕ). AddsPiece (λ characters. (above : List ℕ) → SaysRow above (digits_of p y) characters) c.loop-y.bytes.items l)
                (sym (ap (λ v. v.items) w.bytes-is)) w.in_ok-push_new_row.ensures)
                (λ before row says new. field_row p first y before row c.loop-y.auto.y says new);
            long = ap (λ v. length v.items) w.line-is ∙ (ap length line
                ∙ omega (arith, w.push_new_row.auto.line, ap length w.as_mut_slice.ensures.value, c.loop-y.invariant.long));
            twice = ap (λ v. length v.items) w.digits-is ∙ (ap length digits
                ∙ omega (arith, w.push_new_row.auto.digits, ap length w.as_mut_slice-else-is_repeated.ensures.value, c.loop-y.invariant.twice));
          })
    ]

pub returns : goal.returns
returns c =
    let p = shown c.args.picture.now in
    let end : c.loop-y.y ≡ c.args.first + c.args.count = omega arith in
    adds_as (SaysField p c.args.first c.loop-y.y) (Compresses (2 * row_length p) (row_digits p c.args.first c.args.count)) c.args.bytes.now.items c.loop-y.bytes.items
    (λ characters says. field_whole p c.args.first c.args.count c.loop-y.y characters end says) c.loop-y.invariant.added
