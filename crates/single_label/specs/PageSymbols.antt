-- A label as a page, by its symbol. It is not in `Pages`, whose words the file uses that declares the
-- type: that would be an import cycle.
use Rattle.std.specs.Prelude.{option_map}
use Rattle.std.specs.String.{string_bytes}
use Rattle.picture_settings.specs.declared.draw_options.DrawOptions.{DrawOptions}
use Rattle.qrcode_render.specs.Pdf.{PdfPage}
use Rattle.label_words.specs.declared.command.Label.{Label}
use Rattle.single_label.specs.Pages.{page_of_symbol}
use Rattle.single_label.specs.declared.shown.PageSymbol.{PageSymbol}

-- The page of a symbol and of the text below it.
abbrev pub page_shown : Label → DrawOptions → PageSymbol → PdfPage
page_shown label options page =
    page_of_symbol label options (option_map string_bytes page.caption) page.symbol
