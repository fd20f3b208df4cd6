-- The page of the options with the text is that of the symbol with it.
use Rattle.std.proofs.Common.{◌≡◌, ◌<◌}
use Rattle.std.specs.Prelude.{IfOk, OnOk, Err, option_map}
use Rattle.std.specs.String.{string_bytes}
use Rattle.picture_settings.specs.declared.bounds.TheConstants.{MAX_PDF}
use Rattle.qrcode_render.specs.PdfPagesWritten.{after_page, next_page}
use Rattle.qrcode_render.specs.declared.pdf_pages.PdfError.TheVariants.{TooLong}
use Rattle.single_label.proofs.ShownLemmas.{captioned_page_is, moved}
use Rattle.single_label.proofs.shown.page_drawn.Goals as goal

pub returns-clause-page : goal.returns-clause-page
returns-clause-page c =
    moved (λ page. IfOk c.page_turned.result (λ bytes. bytes.items ≡ next_page c.args.pages.now page)) _ _
    (captioned_page_is c.args.label.now c.args.options.now c.page_options-options.result
    (option_map string_bytes c.args.page.now.caption) c.args.page.now.symbol c.page_options-options.ensures) c.page_turned.ensures.page

pub returns-clause-after : goal.returns-clause-after
returns-clause-after c =
    moved (λ page. OnOk c.page_turned.result (c.page_turned.new.pages ≡ after_page c.args.pages.now page)) _ _
    (captioned_page_is c.args.label.now c.args.options.now c.page_options-options.result
    (option_map string_bytes c.args.page.now.caption) c.args.page.now.symbol c.page_options-options.ensures) c.page_turned.ensures.after

pub returns-clause-no_room : goal.returns-clause-no_room
returns-clause-no_room c =
    moved (λ page. c.page_turned.result ≡ Err TooLong → MAX_PDF < (after_page c.args.pages.now page).size) _ _
    (captioned_page_is c.args.label.now c.args.options.now c.page_options-options.result
    (option_map string_bytes c.args.page.now.caption) c.args.page.now.symbol c.page_options-options.ensures) c.page_turned.ensures.no_room
