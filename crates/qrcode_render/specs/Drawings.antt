-- The bytes of a picture in the format of its options.
use Rattle.std.specs.Prelude.{◌≡◌, ℕ, Bool, true, false, List, [], ◌∷◌, Some}
use Rattle.std.specs.Option.{option_copied}
use Rattle.std.specs.String.{string_bytes}
use Rattle.png.specs.Png.{read_png}
use Rattle.qrcode_core.specs.Grids.{Grid}
use Rattle.picture_settings.specs.declared.draw_options.DrawOptions.{DrawOptions}
use Rattle.picture_settings.specs.declared.format.Format.{Format}
use Rattle.picture_settings.specs.declared.format.Format.TheVariants.{Terminal, Svg, Png, Pbm, Eps}
use Rattle.picture_settings.specs.declared.format.Format.TheVariants.{EscPos, Zpl, Pdf}
use Rattle.picture_settings.specs.Resolutions.{per_metre}
use Rattle.grid_pictures.specs.Bitmaps.{bitmap_of}
use Rattle.grid_pictures.specs.Pictures.{Picture, picture}
use Rattle.qrcode_render.specs.declared.drawing.Drawn.{Drawn}
use Rattle.qrcode_render.specs.declared.drawing.Drawn.TheVariants.{Text, Bytes}
use Rattle.qrcode_render.specs.Captions.{terminal_captioned}
use Rattle.qrcode_render.specs.Eps.{eps_captioned}
use Rattle.qrcode_render.specs.EscPos.{ticket_text}
use Rattle.qrcode_render.specs.Labels.{IsLabel}
use Rattle.qrcode_render.specs.Svg.{svg_captioned}
use Rattle.qrcode_render.specs.Zpl.{least_letters}
use Rattle.qrcode_render.specs.Pdf.{PdfPage, captioned_page, pdf_document}
use Rattle.qrcode_render.specs.PngPixels.{png_captioned}

-- The page of a picture in a document, with what the options say beside its scale and quiet zone.
abbrev pub options_page : DrawOptions → Picture → PdfPage
options_page o p = captioned_page o.module_um (option_copied o.caption) o.colors p

-- The bytes are those of the picture in a format, with what the options say beside the format, the
-- scale and the quiet zone. Of PNG they are any bytes in which a reader finds the pixels.
abbrev pub IsPictureAs : Format → DrawOptions → Picture → List ℕ → Type 0
IsPictureAs Terminal o p bytes =
    bytes ≡ terminal_captioned o.inverted (option_copied o.caption) p
IsPictureAs Svg o p bytes =
    bytes
    ≡ svg_captioned o.module_um (option_copied o.title) (option_copied o.caption) o.colors p
IsPictureAs Png o p bytes =
    read_png bytes
    ≡ Some (png_captioned (per_metre o.scale o.module_um o.dpi_tenths) (option_copied o.title)
    (option_copied o.caption) o.colors p)
IsPictureAs Pbm o p bytes = bytes ≡ bitmap_of p
IsPictureAs Eps o p bytes =
    bytes
    ≡ eps_captioned o.module_um (option_copied o.title) (option_copied o.caption) o.colors p
IsPictureAs EscPos o p bytes = bytes ≡ ticket_text o.feed o.cut p
IsPictureAs Zpl o p bytes =
    IsLabel o.compressed o.at (option_copied o.caption) (least_letters o.dpi_tenths) o.copies p
    bytes
IsPictureAs Pdf o p bytes =
    bytes ≡ pdf_document (option_copied o.title) (options_page o p ∷ [])

-- The bytes show the grid as the options say.
abbrev pub IsPictureOf : DrawOptions → Grid → List ℕ → Type 0
IsPictureOf o grid bytes = IsPictureAs o.format o (picture grid o.scale o.quiet) bytes

-- The page of a grid, as the options say.
abbrev pub page_as : DrawOptions → Grid → PdfPage
page_as o grid = options_page o (picture grid o.scale o.quiet)

-- The bytes of a picture in a format.
abbrev pub drawn_bytes : Drawn → List ℕ
drawn_bytes (Text text) = string_bytes text
drawn_bytes (Bytes bytes) = bytes.items

-- The picture is text.
abbrev pub is_drawn_text : Drawn → Bool
is_drawn_text (Text text) = true
is_drawn_text (Bytes bytes) = false
