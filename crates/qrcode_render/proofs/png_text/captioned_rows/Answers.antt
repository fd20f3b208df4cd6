-- The rows of the picture and of the text, inverted.
use Rattle.std.proofs.Common.{◌≡◌, ◌++◌, ◌∙◌, ap, arith}
use Rattle.std.proofs.lemmas.List.{with_items_is}
use Rattle.grid_pictures.specs.{Bitmaps.first_rows, Picture.shown, Pictures.pixel_height, Texts.font_rows, Texts.text_bytes, Texts.text_of}
use Rattle.qrcode_render.specs.PngPixels.{captioned_bytes, inverted}
use Rattle.qrcode_render.proofs.png_text.captioned_rows.Goals as goal

pub returns : goal.returns
unfolding captioned_bytes
returns c =
    let p = shown c.args.picture.now in
    let t = text_of c.args.text.now in
    let both : c.push_text.new.bytes.items ≡ first_rows p (pixel_height p) ++ text_bytes t (font_rows t) =
    c.in_ok-push_text.ensures
    ∙ ap (λ l. l ++ text_bytes t (font_rows t)) (c.in_ok-push_rows.ensures ∙ ap (λ l. l ++ first_rows p (pixel_height p)) c.new-rows.ensures.items) in
    with_items_is c.push_text.new.bytes c.invert.new.bytes (omega (arith, c.invert.auto.bytes, c.as_mut_slice.ensures.len))
    ∙ (c.invert.ensures ∙ ap inverted (c.as_mut_slice.ensures.value ∙ both))
