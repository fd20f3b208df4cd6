-- The label of a symbol as a page of a document.
use Rattle.std.specs.Prelude.{ℕ, Bool, ◌&&◌, not, List, [], ◌∷◌, Option}
use Rattle.qrcode_core.specs.Symbol.{DrawnSymbol, drawn_grid}
use Rattle.std.specs.Option.{option_copied, option_or}
use Rattle.grid_pictures.specs.Pictures.{picture}
use Rattle.qrcode_render.specs.Pdf.{PdfPage, captioned_page, pdf_document}
use Rattle.picture_settings.specs.declared.draw_options.DrawOptions.{DrawOptions}
use Rattle.label_words.specs.Choices.{is_pdf}
use Rattle.single_label.specs.Labels.{is_alone}
use Rattle.single_label.specs.Turns.{turned}
use Rattle.label_words.specs.declared.command.Label.{Label}

-- Whether labels are pages: they are drawn as PDF. Details alone are text, and so is what a
-- terminal shows in colors of its own.
abbrev pub are_pages : Label → DrawOptions → Bool
are_pages label options = is_pdf options.format && (not (is_alone label.details) && not label.colored)

-- The page of a symbol, which is turned as the label says, with a text below it: this one, or that
-- of the options, if one is given.
abbrev pub page_of_symbol : Label → DrawOptions → (caption : Option (List ℕ)) → DrawnSymbol → PdfPage
page_of_symbol label options caption symbol =
    captioned_page options.module_um (option_or caption (option_copied options.caption)) options.colors
    (picture (turned label.turn (drawn_grid symbol)) options.scale options.quiet)

-- The document that has this page alone.
abbrev pub page_alone : (title : Option (List ℕ)) → PdfPage → List ℕ
page_alone title page = pdf_document title (page ∷ [])
