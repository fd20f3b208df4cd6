-- The start, the page and the end are the document.
use Rattle.std.proofs.Common.{◌≡◌, ◌+◌, ◌++◌, ◌∙◌, [], ◌∷◌, ap, length}
use Rattle.std.specs.Option.{option_copied}
use Rattle.grid_pictures.specs.Picture.{shown}
use Rattle.qrcode_render.specs.Pdf.{captioned_page}
use Rattle.qrcode_render.specs.PdfPagesWritten.{page_object, page_text, pdf_end, pdf_start}
use Rattle.qrcode_render.proofs.PdfLemmas.{one_page}
use Rattle.qrcode_render.proofs.pdf.pdf_captioned.Goals as goal

pub returns : goal.returns
returns c =
    let title = option_copied c.args.texts.title in
    let page = captioned_page c.args.module_um (option_copied c.args.texts.caption) c.args.colors (shown c.args.picture.now) in
    let start = c.len-start.result in
    let size = c.len-size.result in
    let text : c.push_page.new.bytes.items ≡ pdf_start title ++ page_text 4 page =
    cc (c.in_ok-first.ensures.added, c.in_ok-bytes.ensures, c.in_ok-page.ensures) in
    let first : c.in_ok-first.first ≡ length (page_object 4 page) = cc (c.in_ok-first.ensures.first, c.in_ok-page.ensures) in
    c.in_ok-push_end.ensures
    ∙ ap (λ l. l ++ pdf_end (record { size = size; offsets = start ∷ (start + c.in_ok-first.first) ∷ [] })) text
    ∙ one_page title page size start (start + c.in_ok-first.first)
    (c.len-size.ensures ∙ c.push_page.new.bytes.ok.0 ∙ ap length text) (c.len-start.ensures ∙ c.in_ok-bytes.bytes.ok.0 ∙ ap length c.in_ok-bytes.ensures) (ap (λ n. start + n) first)
