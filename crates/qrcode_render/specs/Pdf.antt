-- A document of pictures in the Portable Document Format (ISO 32000-1; this part of it is PDF 1.4):
-- a page for each picture, with a light ground, and on it one path with a rectangle for each run of
-- dark modules in a row. The page is exactly the picture with its quiet zone.
use Rattle.std.specs.Prelude.{ℕ, ◌+◌, ◌-◌, ◌*◌, ◌/◌, ◌%◌, nat_lt, if◌then◌else◌}
use Rattle.std.specs.Prelude.{List, [], ◌∷◌, ◌++◌, length, flat_map, chars, codes, decimal}
use Rattle.std.specs.Prelude.{Option, None, Some, is_some, Bool, true, false}
use Rattle.std.specs.List.{range_with_len}
use Rattle.picture_settings.specs.declared.colors.Colors.{Colors}
use Rattle.picture_settings.specs.declared.colors.Ground.{Ground}
use Rattle.picture_settings.specs.declared.colors.Ground.TheVariants.{Color, Transparent}
use Rattle.picture_settings.specs.declared.colors.Rgb.{Rgb}
use Rattle.picture_settings.specs.Resolutions.{nearest}
use Rattle.grid_pictures.specs.Paths.{path}
use Rattle.grid_pictures.specs.Pens.{pdf_rectangle}
use Rattle.grid_pictures.specs.Pictures.{Picture, columns_of, rows_of}
use Rattle.picture_settings.specs.PostScript.{string_text}
use Rattle.qrcode_render.specs.Captions.{Block, block_below, each_line, high, hundredths, line_row}
use Rattle.qrcode_render.specs.Eps.{exact_side, thousandths}
use Rattle.qrcode_render.specs.PdfFile.{pdf_file}
use Rattle.qrcode_render.specs.Zpl.{hex_pair}

-- ---- The document (7.7, "Document Structure")

-- A page: its sides in points, whether it has text, and what its content stream has.
pub record PdfPage : Type 0 where
  pub width : List ℕ
  pub height : List ℕ
  pub has_text : Bool
  pub content : List ℕ

-- The resources of a page of its own: with text, the font F (9.6.2.2, "Standard Type 1 Fonts").
abbrev pub page_resources : (has_text : Bool) → List ℕ
page_resources false = []
page_resources true =
    codes "/Resources<</Font<</F<</Type/Font/Subtype/Type1/BaseFont/Courier"
    ++ codes "/Encoding/WinAnsiEncoding>>>>>>"

-- What the object of a page is, by its number. The number of its content stream is the next one.
unfoldable pub page_content : (number : ℕ) → PdfPage → List ℕ
page_content number page =
    codes "<</Type/Page/Parent 2 0 R" ++ (page_resources page.has_text ++
    (codes "/MediaBox[0 0 " ++ (page.width ++ (codes " " ++ (page.height ++
    (codes "]/Contents " ++ (decimal (number + 1) ++ codes " 0 R>>")))))))

-- What the object of a content stream is (7.3.8, "Stream Objects").
unfoldable pub stream_content : (content : List ℕ) → List ℕ
stream_content content =
    codes "<</Length " ++ (decimal (length content) ++ (codes ">>\nstream\n" ++ (content
    ++ codes "\nendstream")))

-- The objects of pages, the first of which has this number.
abbrev pub page_objects : (number : ℕ) → List PdfPage → List (ℕ × List ℕ)
page_objects number [] = []
page_objects number (page ∷ pages) =
    (number, page_content number page) ∷ (number + 1, stream_content page.content)
    ∷ page_objects (number + 2) pages

-- The catalog (7.7.2, "Document Catalog").
abbrev pub catalog : List ℕ
catalog = codes "<</Type/Catalog/Pages 2 0 R>>"

-- The references to the objects of the first pages.
unfoldable pub page_references : (count : ℕ) → List ℕ
page_references count =
    flat_map (λ n. decimal (4 + 2 * n) ++ codes " 0 R ") (range_with_len 0 count)

-- The page tree (7.7.3, "Page Tree"), whose pages need no resources.
unfoldable pub page_tree : (count : ℕ) → List ℕ
page_tree count =
    codes "<</Type/Pages/Resources<<>>/Kids[" ++ (page_references count ++ (codes "]/Count " ++
    (decimal count ++ codes ">>")))

-- The units of UTF-16 of a character (The Unicode Standard, 3.9, "Unicode Encoding Forms").
abbrev pub utf16_units : ℕ → List ℕ
utf16_units c =
    if nat_lt c 0x10000 then c ∷ [] else
    (0xD800 + (c - 0x10000) / 0x400) ∷ (0xDC00 + (c - 0x10000) % 0x400) ∷ []

-- A unit of UTF-16, in four hexadecimal digits.
abbrev pub hex_unit : ℕ → List ℕ
hex_unit unit = hex_pair (unit / 256) ++ hex_pair (unit % 256)

-- Characters in UTF-16, by hexadecimal digits, the higher byte of each unit first.
unfoldable pub utf16_text : List ℕ → List ℕ
utf16_text cs = flat_map (λ c. flat_map hex_unit (utf16_units c)) cs

-- A text as a text string (7.9.2.2, "Text String Type"): a hexadecimal string (7.3.4.3) of its
-- UTF-16 after the byte order mark. It may have any character.
unfoldable pub text_string : (text : List ℕ) → List ℕ
text_string text = codes "<FEFF" ++ (utf16_text (chars text) ++ codes ">")

-- The entry of the title, if there is one.
abbrev pub title_entry : (title : Option (List ℕ)) → List ℕ
title_entry None = []
title_entry (Some title) = codes "/Title" ++ text_string title

-- The information dictionary (14.3.3, "Document Information Dictionary").
abbrev pub information : (title : Option (List ℕ)) → List ℕ
information title = codes "<<" ++ (title_entry title ++ codes ">>")

-- The objects of a document in the order of the file: the catalog, the information dictionary, the
-- pages with their content streams, and the page tree.
abbrev pub pdf_objects : (title : Option (List ℕ)) → List PdfPage → List (ℕ × List ℕ)
pdf_objects title pages =
    (1, catalog) ∷ (3, information title)
    ∷ (page_objects 4 pages ++ (2, page_tree (length pages)) ∷ [])

-- The document of some pages.
abbrev pub pdf_document : (title : Option (List ℕ)) → List PdfPage → List ℕ
pdf_document title pages = pdf_file (pdf_objects title pages)

-- ---- The content stream of a picture (8, "Graphics")

-- Millionths, as a decimal number.
unfoldable pub millionths : ℕ → List ℕ
millionths n =
    decimal (n / 1000000) ++ (codes "." ++ (decimal (n / 100000 % 10) ++ (decimal (n / 10000 % 10)
    ++ (decimal (n / 1000 % 10) ++ (decimal (n / 100 % 10) ++ (decimal (n / 10 % 10)
    ++ decimal (n % 10)))))))

-- The width of a module in points, of which an inch has 72: the scale, or the size that is given in
-- micrometres, to the nearest millionth.
abbrev pub module_width : (module_um : Option ℕ) → (scale : ℕ) → List ℕ
module_width None scale = decimal scale
module_width (Some module_um) scale = millionths (nearest (module_um * 18000000) 6350)

-- A side of the page in points. Where the size of a module is given, it is rounded up
-- to thousandths.
abbrev pub page_side : (module_um : Option ℕ) → (scale modules : ℕ) → List ℕ
page_side None scale modules = decimal (modules * scale)
page_side (Some module_um) scale modules = exact_side module_um modules

-- A part of a colour as its share of 255, to the nearest thousandth.
abbrev pub color_part : ℕ → List ℕ
color_part value = thousandths (nearest (1000 * value) 255)

-- A colour.
unfoldable pub pdf_color : Rgb → List ℕ
pdf_color c =
    color_part c.red ++ (codes " " ++ (color_part c.green ++ (codes " " ++ (color_part c.blue
    ++ codes " rg"))))

-- The rectangle of the ground, which is the page.
unfoldable pub pdf_fill : (color width height : List ℕ) → List ℕ
pdf_fill color width height =
    color ++ (codes " 0 0 " ++ (width ++ (codes " " ++ (height ++ codes " re f\n"))))

-- The ground, white if none is given. If it is transparent there is nothing.
abbrev pub pdf_ground : Option Ground → (width height : List ℕ) → List ℕ
pdf_ground None width height = pdf_fill (codes "1 g") width height
pdf_ground (Some Transparent) width height = []
pdf_ground (Some (Color color)) width height = pdf_fill (pdf_color color) width height

-- The colour of the path, black if none is given.
abbrev pub pdf_ink : Option Rgb → List ℕ
pdf_ink None = codes "0 g\n"
pdf_ink (Some color) = pdf_color color ++ codes "\n"

-- The units, which are modules, the rows counted from the top.
unfoldable pub pdf_units : (unit height : List ℕ) → List ℕ
pdf_units unit height =
    unit ++ (codes " 0 0 -" ++ (unit ++ (codes " 0 " ++ (height ++ codes " cm\n"))))

-- Where a line of the text below a picture begins, in hundredths of a module, so that it is in the
-- middle: a character is 0.6 times as wide as its size.
abbrev pub line_start : (size columns length : ℕ) → ℕ
line_start size columns length = (columns * 100 - size * length * 3 / 5) / 2

-- The place of a line (9.4.2, "Text-Positioning Operators"). The rows are counted from the top, so
-- the letters are turned over.
unfoldable pub text_place : (start : List ℕ) → (row : ℕ) → List ℕ
text_place start row =
    codes "1 0 0 -1 " ++ (start ++ (codes " " ++ (decimal row ++ codes " Tm(")))

-- A line after its place, as a string (7.3.4.2, "Literal Strings", as those of PostScript).
abbrev pub placed : (place line : List ℕ) → List ℕ
placed place line = place ++ (string_text line ++ codes ")Tj\n")

-- Line n.
abbrev pub pdf_line : Block → (columns rows n : ℕ) → (line : List ℕ) → List ℕ
pdf_line b columns rows n line =
    placed (text_place (hundredths (line_start b.size columns (length line))) (line_row b rows n))
    line

-- The command for the font (9.3, "Text State Parameters and Operators"), up to the lines.
unfoldable pub text_start : (size : List ℕ) → List ℕ
text_start size = codes "f\nBT\n/F " ++ (size ++ codes " Tf\n")

-- The end of the path, and the text below the picture, if there is one.
abbrev pub path_end : Option Block → (columns rows : ℕ) → List ℕ
path_end None columns rows = codes "f"
path_end (Some b) columns rows =
    text_start (hundredths b.size) ++ (each_line (pdf_line b columns rows) b.lines ++ codes "ET")

-- The content stream of a picture on a page with these sides.
abbrev pub picture_content : (module_um : Option ℕ) → Option Block → Colors → Picture →
    (width height : List ℕ) → List ℕ
picture_content module_um block colors p width height =
    pdf_ground colors.light width height
    ++ (pdf_ink colors.dark
    ++ (pdf_units (module_width module_um p.scale) height
    ++ (path pdf_rectangle p (rows_of p) ++ path_end block (columns_of p) (rows_of p))))

-- The page of a picture, with a laid out text below it, in rows of its own, if it is given.
abbrev pub page_laid_out : (module_um : Option ℕ) → Option Block → Colors → Picture → PdfPage
page_laid_out module_um block colors p =
    record {
      width = page_side module_um p.scale (columns_of p);
      height = page_side module_um p.scale (high block (rows_of p));
      has_text = is_some block;
      content = picture_content module_um block colors p
          (page_side module_um p.scale (columns_of p))
          (page_side module_um p.scale (high block (rows_of p)));
    }

-- The page of a picture, with the size of a module in micrometres, with a text below it and with
-- colours, if they are given.
abbrev pub captioned_page : (module_um : Option ℕ) → (caption : Option (List ℕ)) → Colors →
    Picture → PdfPage
captioned_page module_um caption colors p =
    page_laid_out module_um (block_below module_um caption p) colors p

-- The same with no text.
abbrev pub pdf_page : (module_um : Option ℕ) → Colors → Picture → PdfPage
pdf_page module_um colors p = captioned_page module_um None colors p
