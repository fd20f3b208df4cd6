-- A picture as SVG (Scalable Vector Graphics 1.1): a light background, and on it one path with a
-- line for each run of dark modules in a row.
use Rattle.std.specs.Prelude.{ℕ, ◌*◌, ◌/◌, ◌%◌, ◌==◌, if◌then◌else◌, Option, None, Some}
use Rattle.std.specs.Prelude.{List, [], ◌++◌, codes, decimal}
use Rattle.picture_settings.specs.Colors.{no_colors}
use Rattle.picture_settings.specs.Xml.{xml_text}
use Rattle.picture_settings.specs.declared.colors.Colors.{Colors}
use Rattle.picture_settings.specs.declared.colors.Ground.{Ground}
use Rattle.picture_settings.specs.declared.colors.Ground.TheVariants.{Color, Transparent}
use Rattle.picture_settings.specs.declared.colors.Rgb.{Rgb}
use Rattle.grid_pictures.specs.Paths.{path}
use Rattle.grid_pictures.specs.Pens.{rectangle}
use Rattle.grid_pictures.specs.Pictures.{Picture, columns_of, rows_of, pixel_width, pixel_height}
use Rattle.qrcode_render.specs.Captions.{Block, block_below, each_line, high, high_pixels}
use Rattle.qrcode_render.specs.Captions.{hundredths, line_row}
use Rattle.qrcode_render.specs.Zpl.{hex_pair}

-- Micrometres, as a decimal number of millimetres: two digits after the point, or three where the
-- third is not 0.
unfoldable pub millimetres : ℕ → List ℕ
millimetres n =
    decimal (n / 1000) ++ (codes "." ++ (decimal (n / 100 % 10) ++ (decimal (n / 10 % 10)
    ++ (if n % 10 == 0 then codes "mm" else decimal (n % 10) ++ codes "mm"))))

-- A side of the picture: in pixels, or in millimetres where the size of a module is given.
abbrev pub svg_side : Option ℕ → (modules pixels : ℕ) → List ℕ
svg_side None modules pixels = decimal pixels
svg_side (Some module_um) modules pixels = millimetres (modules * module_um)

-- The first tag, with the sides of the picture, and with the view box in modules.
unfoldable pub svg_tag : (width height : List ℕ) → (columns rows : ℕ) → List ℕ
svg_tag width height columns rows =
    codes "<svg xmlns=\"http://www.w3.org/2000/svg\" width=\"" ++ (width ++
    (codes "\" height=\"" ++ (height ++
    (codes "\" viewBox=\"0 0 " ++ (decimal columns ++ (codes " " ++ (decimal rows ++
    codes "\">\n")))))))

-- The title, if there is one.
abbrev pub title_element : Option (List ℕ) → List ℕ
title_element None = []
title_element (Some title) = codes "<title>" ++ (xml_text title ++ codes "</title>\n")

-- A colour as SVG has it.
unfoldable pub hex_color : Rgb → List ℕ
hex_color c = codes "#" ++ (hex_pair c.red ++ (hex_pair c.green ++ hex_pair c.blue))

-- The colour of the path, black if none is given.
abbrev pub stroke : Option Rgb → List ℕ
stroke None = codes "#000"
stroke (Some color) = hex_color color

-- The rectangle of the ground.
unfoldable pub background : (color : List ℕ) → (columns rows : ℕ) → List ℕ
background color columns rows =
    codes "<rect width=\"" ++ (decimal columns ++ (codes "\" height=\"" ++ (decimal rows ++
    (codes "\" fill=\"" ++ (color ++ codes "\"/>\n")))))

-- The ground, white if none is given. If it is transparent there is nothing.
abbrev pub svg_ground : Option Ground → (columns rows : ℕ) → List ℕ
svg_ground None columns rows = background (codes "#fff") columns rows
svg_ground (Some Transparent) columns rows = []
svg_ground (Some (Color color)) columns rows = background (hex_color color) columns rows

-- The path up to its data.
unfoldable pub path_start : (color : List ℕ) → List ℕ
path_start color =
    codes "<path stroke=\"" ++ (color ++ (codes "\" transform=\"translate(0,.5)\""
    ++ codes " shape-rendering=\"crispEdges\" d=\""))

-- The end of the document.
abbrev pub closing : List ℕ
closing = codes "\"/>\n</svg>\n"

-- The first tag of a line of the text below the picture, in the middle.
unfoldable pub caption_tag : (y : ℕ) → (size color : List ℕ) → List ℕ
caption_tag y size color =
    codes "<text x=\"50%\" y=\"" ++ (decimal y
    ++ (codes "\" text-anchor=\"middle\" font-family=\"monospace\" font-size=\"" ++ (size
    ++ (codes "\" fill=\"" ++ (color ++ codes "\">")))))

-- A line after its tag.
abbrev pub tagged : (tag line : List ℕ) → List ℕ
tagged tag line = tag ++ (xml_text line ++ codes "</text>\n")

-- Line n.
abbrev pub caption_element : Block → Option Rgb → (rows n : ℕ) → (line : List ℕ) → List ℕ
caption_element b dark rows n line =
    tagged (caption_tag (line_row b rows n) (hundredths b.size) (stroke dark)) line

-- All lines.
abbrev pub caption_elements : Block → Option Rgb → (rows : ℕ) → List ℕ
caption_elements b dark rows = each_line (caption_element b dark rows) b.lines

-- The end of the document, with this text, if it is given.
abbrev pub svg_end : Option Block → Option Rgb → (rows : ℕ) → List ℕ
svg_end None dark rows = closing
svg_end (Some b) dark rows =
    codes "\"/>\n" ++ (caption_elements b dark rows ++ codes "</svg>\n")

-- The document of a picture, with a title, with a laid out text below it and with colours, if they
-- are given. The text has rows of its own.
abbrev pub svg_laid_out : (module_um : Option ℕ) → (title : Option (List ℕ)) → Option Block →
    Colors → Picture → List ℕ
svg_laid_out module_um title block colors p =
    svg_tag (svg_side module_um (columns_of p) (pixel_width p))
    (svg_side module_um (high block (rows_of p)) (high_pixels block p)) (columns_of p)
    (high block (rows_of p))
    ++ (title_element title
    ++ (svg_ground colors.light (columns_of p) (high block (rows_of p))
    ++ (path_start (stroke colors.dark) ++ (path rectangle p (rows_of p)
    ++ svg_end block colors.dark (rows_of p)))))

-- The same, with the size of a module in micrometres and with a text below it, if they are given.
abbrev pub svg_captioned : (module_um : Option ℕ) → (title caption : Option (List ℕ)) → Colors →
    Picture → List ℕ
svg_captioned module_um title caption colors p =
    svg_laid_out module_um title (block_below module_um caption p) colors p

-- The document of a picture, with the size of a module in micrometres, with a title and with
-- colours, if they are given.
abbrev pub svg_colored : (module_um : Option ℕ) → (title : Option (List ℕ)) → Colors → Picture →
    List ℕ
svg_colored module_um title colors p =
    svg_tag (svg_side module_um (columns_of p) (pixel_width p))
    (svg_side module_um (rows_of p) (pixel_height p)) (columns_of p) (rows_of p)
    ++ (title_element title ++ (svg_ground colors.light (columns_of p) (rows_of p)
    ++ (path_start (stroke colors.dark) ++ (path rectangle p (rows_of p) ++ closing))))

-- The same in black on white.
abbrev pub svg_document : (module_um : Option ℕ) → (title : Option (List ℕ)) → Picture → List ℕ
svg_document module_um title p = svg_colored module_um title no_colors p

-- The document of a picture, with neither.
abbrev pub svg_text : Picture → List ℕ
svg_text = svg_document None None
