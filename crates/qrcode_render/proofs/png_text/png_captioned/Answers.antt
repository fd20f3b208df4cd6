-- The rows are those of the image, and have the pixels of the picture and of the text.
use Rattle.std.proofs.Common.{◌≡◌, ◌+◌, ◌*◌, length, map, ◌∙◌, ap, refl, subst, sym, arith}
use Rattle.std.specs.Prelude.{IfOk, Some}
use Rattle.std.specs.Option.{option_copied}
use Rattle.std.specs.String.{string_bytes}
use Rattle.std.proofs.lemmas.List.{length-map}
use Rattle.png.specs.Png.{Pixels, read_png}
use Rattle.png.specs.declared.image.Image.{Image}
use Rattle.grid_pictures.specs.{Picture.shown, Texts.Text}
use Rattle.qrcode_render.specs.PngPixels.{png_above, png_captioned, text_below}
use Rattle.qrcode_render.proofs.PngTextLemmas.{captioned_high, captioned_pixels, captioned_whole, text_by, text_is}
use Rattle.qrcode_render.proofs.png_text.png_captioned.Goals as goal

pub png-requires-clause-whole : goal.png-requires-clause-whole
png-requires-clause-whole c =
    let p = shown c.args.picture.now in
    let t : Text = text_by (map string_bytes c.deref.result.now) c.width-width.result c.letter_size-size.result in
    let count : c.len-2.result ≡ length t.lines =
    omega (arith, c.len-2.ensures, c.deref.ensures.len, length-map c.deref.result.now string_bytes) in
    captioned_whole p t c.deref-2.result.now c.width-width.result c.height-2.result c.len-2.result (c.deref-2.ensures.value ∙ c.in_ok-rows.ensures)
    c.width-width.ensures.exact c.width-width.ensures.exact c.height-2.ensures.exact count

pub returns : goal.returns
returns c =
    let p = shown c.args.picture.now in
    let t : Text = text_by (map string_bytes c.deref.result.now) c.width-width.result c.letter_size-size.result in
    let count : c.len-2.result ≡ length t.lines =
    omega (arith, c.len-2.ensures, c.deref.ensures.len, length-map c.deref.result.now string_bytes) in
    let below : t ≡ text_below c.args.per_metre p c.in-Some.caption.now =
    text_is c.args.per_metre p c.in-Some.caption.now (map string_bytes c.deref.result.now) c.width-width.result c.letter_size-size.result c.max.result
    (ap (map string_bytes) c.deref.ensures.value ∙ c.in_ok-lines.ensures) c.max.ensures c.width-width.ensures.exact c.letter_size-size.ensures.exact in
    let image : Image =
    record { width = c.width-width.result; rows = c.deref-2.result; count = c.height-2.result + c.len-2.result * (10 * c.letter_size-size.result); repeat = 1; per_metre = c.args.per_metre; palette = c.palette.result; title = c.args.texts.title } in
    subst (λ (px : Pixels). IfOk c.png.result (λ file. read_png file.items ≡ Some px))
    (captioned_pixels image p t c.args.per_metre (option_copied c.args.texts.title) c.args.colors c.width-width.ensures.exact c.width-width.ensures.exact
    (captioned_high p t c.height-2.result c.len-2.result c.height-2.ensures.exact count) refl refl c.palette.ensures refl (c.deref-2.ensures.value ∙ c.in_ok-rows.ensures)
    ∙ (ap (λ (x : Text). png_above c.args.per_metre (option_copied c.args.texts.title) c.args.colors p x) below
    ∙ ap (λ o. png_captioned c.args.per_metre (option_copied c.args.texts.title) (option_copied o) c.args.colors p) (sym c.in-Some.is)))
    c.png.ensures
