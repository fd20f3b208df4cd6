-- The digits are those of the row.
use Rattle.std.proofs.Common.{◌≡◌, ◌∙◌, List, ℕ, ap, subst, sym, true}
use Rattle.std.specs.Prelude.{All, OnOk, flat_map}
use Rattle.grid_pictures.specs.{Bitmaps.bitmap_row, Picture.shown}
use Rattle.qrcode_render.specs.{Compressed.is_hex_digit, CompressedData.AddsPiece, CompressedData.SaysRow, Zpl.hex_pair}
use Rattle.qrcode_render.proofs.FieldLemmas.{row_hexes}
use Rattle.qrcode_render.proofs.compressed.push_new_row.Goals as goal

pub push_row-requires-clause-hex : goal.push_row-requires-clause-hex
push_row-requires-clause-hex c =
    let p = shown c.args.picture.now in
    let row : flat_map hex_pair (bitmap_row p c.args.y) ≡ c.write_hex.new.digits =
    sym (c.write_hex.ensures ∙ ap (flat_map hex_pair) c.write_row.ensures) in
    subst (λ (digits : List ℕ). All (λ digit. is_hex_digit digit ≡ true) digits) row (row_hexes p c.args.y)

pub returns : goal.returns
returns c =
    let row : c.write_hex.new.digits ≡ flat_map hex_pair (bitmap_row (shown c.args.picture.now) c.args.y) =
    c.write_hex.ensures ∙ ap (flat_map hex_pair) c.write_row.ensures in
    subst (λ (digits : List ℕ). OnOk c.push_row.result
    (AddsPiece (λ characters. (above : List ℕ) → SaysRow above digits characters) c.args.bytes.now.items c.push_row.new.bytes.items)) row c.push_row.ensures
