-- The page of a document that the program has drawn. It is not in `Pdf`, whose words the contracts
-- of the file that declares the type use: that would be an import cycle.
use Rattle.std.specs.String.{string_bytes}
use Rattle.qrcode_render.specs.declared.pdf_page.Page.{Page}
use Rattle.qrcode_render.specs.Pdf.{PdfPage}

-- A page by its texts.
abbrev pub page_of : Page → PdfPage
page_of page =
    record {
      width = string_bytes page.width;
      height = string_bytes page.height;
      has_text = page.has_text;
      content = string_bytes page.content;
    }
