-- A picture as Encapsulated PostScript (Adobe, "Encapsulated PostScript File Format Specification",
-- version 3.0): a light background, and on it one path with a rectangle for each run of dark
-- modules in a row.
use Rattle.std.specs.Prelude.{ℕ, ◌+◌, ◌*◌, ◌/◌, ◌%◌, Option, None, Some, List, [], ◌++◌, codes}
use Rattle.std.specs.Prelude.{decimal}
use Rattle.picture_settings.specs.Colors.{no_colors}
use Rattle.picture_settings.specs.declared.colors.Colors.{Colors}
use Rattle.picture_settings.specs.declared.colors.Ground.{Ground}
use Rattle.picture_settings.specs.declared.colors.Ground.TheVariants.{Color, Transparent}
use Rattle.picture_settings.specs.declared.colors.Rgb.{Rgb}
use Rattle.picture_settings.specs.PostScript.{string_text}
use Rattle.grid_pictures.specs.Pictures.{Picture, columns_of, rows_of}
use Rattle.grid_pictures.specs.Paths.{path}
use Rattle.grid_pictures.specs.Pens.{eps_rectangle}
use Rattle.qrcode_render.specs.Captions.{Block, block_below, each_line, high, hundredths, line_row}

-- The width of a module in points, of which an inch has 72: the scale, or the width that is given in
-- micrometres.
abbrev pub module_points : Option ℕ → (scale : ℕ) → List ℕ
module_points None scale = decimal scale
module_points (Some module_um) scale = decimal module_um ++ codes " 18 mul 6350 div"

-- A side of the bounding box: the least whole number of points that is not less than the side.
abbrev pub box_side : Option ℕ → (scale modules : ℕ) → ℕ
box_side None scale modules = modules * scale
box_side (Some module_um) scale modules = (modules * module_um * 18 + 6349) / 6350

-- Thousandths, as a decimal number.
unfoldable pub thousandths : ℕ → List ℕ
thousandths n =
    decimal (n / 1000) ++ (codes "." ++ (decimal (n / 100 % 10) ++ (decimal (n / 10 % 10)
    ++ decimal (n % 10))))

-- A side of the picture in points, where the size of a module is given: the least whole number of
-- thousandths that is not less than the side.
abbrev pub exact_side : (module_um modules : ℕ) → List ℕ
exact_side module_um modules = thousandths ((modules * module_um * 18000 + 6349) / 6350)

-- The comments, up to the sides of the bounding box.
unfoldable pub eps_head : (width height : ℕ) → List ℕ
eps_head width height =
    codes "%!PS-Adobe-3.0 EPSF-3.0\n%%BoundingBox: 0 0 " ++ (decimal width ++ (codes " " ++
    (decimal height ++ codes "\n")))

unfoldable pub exact_line : (width height : List ℕ) → List ℕ
exact_line width height =
    codes "%%HiResBoundingBox: 0 0 " ++ (width ++ (codes " " ++ (height ++ codes "\n")))

-- The sides of the picture, which are no whole points where the size of a module is given.
abbrev pub exact_comment : Option ℕ → (columns rows : ℕ) → List ℕ
exact_comment None columns rows = []
exact_comment (Some module_um) columns rows =
    exact_line (exact_side module_um columns) (exact_side module_um rows)

-- Both.
abbrev pub eps_comments : Option ℕ → (scale columns rows : ℕ) → List ℕ
eps_comments module_um scale columns rows =
    eps_head (box_side module_um scale columns) (box_side module_um scale rows)
    ++ exact_comment module_um columns rows

-- The title, if there is one (Adobe, "PostScript Language Document Structuring Conventions",
-- version 3.0), as a string.
abbrev pub title_comment : Option (List ℕ) → List ℕ
title_comment None = []
title_comment (Some title) = codes "%%Title: (" ++ (string_text title ++ codes ")\n")

-- The end of the comments; the procedure that adds a rectangle to the path; and the units, which
-- are modules, the rows counted from the top.
unfoldable pub eps_setup : (points : List ℕ) → (rows : ℕ) → List ℕ
eps_setup points rows =
    codes "%%LanguageLevel: 2\n%%EndComments\n"
    ++ (codes "/r{moveto dup 0 rlineto 0 1 rlineto neg 0 rlineto closepath}bind def\n" ++ (points ++
    (codes " dup scale 0 " ++ (decimal rows ++ codes " translate 1 -1 scale\n"))))

-- A colour as PostScript has it.
unfoldable pub ps_color : Rgb → List ℕ
ps_color c =
    decimal c.red ++ (codes " 255 div " ++ (decimal c.green ++ (codes " 255 div " ++
    (decimal c.blue ++ codes " 255 div setrgbcolor"))))

-- The rectangle of the ground.
unfoldable pub eps_fill : (color : List ℕ) → (columns rows : ℕ) → List ℕ
eps_fill color columns rows =
    color ++ (codes " 0 0 " ++ (decimal columns ++ (codes " " ++ (decimal rows
    ++ codes " rectfill "))))

-- The ground, white if none is given. If it is transparent there is nothing.
abbrev pub eps_ground : Option Ground → (columns rows : ℕ) → List ℕ
eps_ground None columns rows = eps_fill (codes "1 setgray") columns rows
eps_ground (Some Transparent) columns rows = []
eps_ground (Some (Color color)) columns rows = eps_fill (ps_color color) columns rows

-- The colour of the path, black if none is given.
abbrev pub eps_ink : Option Rgb → List ℕ
eps_ink None = codes "0 setgray\n"
eps_ink (Some color) = ps_color color ++ codes "\n"

-- The end of the document.
abbrev pub eps_end : List ℕ
eps_end = codes "fill\nshowpage\n%%EOF\n"

-- The document of a picture, with the size of a module in micrometres, with a title and with
-- colours, if they are given.
abbrev pub eps_document : (module_um : Option ℕ) → (title : Option (List ℕ)) → Colors → Picture →
    List ℕ
eps_document module_um title colors p =
    eps_comments module_um p.scale (columns_of p) (rows_of p)
    ++ (title_comment title
    ++ (eps_setup (module_points module_um p.scale) (rows_of p)
    ++ (eps_ground colors.light (columns_of p) (rows_of p)
    ++ (eps_ink colors.dark ++ (path eps_rectangle p (rows_of p) ++ eps_end)))))

-- The font of the text below the picture. The rows are counted from the top, so it is turned over.
unfoldable pub caption_font : (size : List ℕ) → List ℕ
caption_font size =
    codes "/Courier findfont[" ++ (size ++ (codes " 0 0 -" ++ (size ++
    codes " 0 0]makefont setfont\n")))

-- What shows a line, in the middle of these columns.
unfoldable pub caption_end : (columns y : ℕ) → List ℕ
caption_end columns y =
    codes ")\ndup stringwidth pop " ++ (decimal columns ++ (codes " exch sub 2 div " ++
    (decimal y ++ codes " moveto show\n")))

-- A line, before what shows it.
abbrev pub eps_shown : (line end : List ℕ) → List ℕ
eps_shown line end = codes "(" ++ (string_text line ++ end)

-- Line n.
abbrev pub eps_line : Block → (columns rows n : ℕ) → (line : List ℕ) → List ℕ
eps_line b columns rows n line = eps_shown line (caption_end columns (line_row b rows n))

-- The font, and all lines.
abbrev pub eps_caption : Block → (columns rows : ℕ) → List ℕ
eps_caption b columns rows =
    caption_font (hundredths b.size) ++ each_line (eps_line b columns rows) b.lines

-- The end of the document, with this text, if it is given.
abbrev pub eps_finish : Option Block → (columns rows : ℕ) → List ℕ
eps_finish None columns rows = eps_end
eps_finish (Some b) columns rows =
    codes "fill\n" ++ (eps_caption b columns rows ++ codes "showpage\n%%EOF\n")

-- The document of a picture, with a laid out text below it, in rows of its own, if it is given.
abbrev pub eps_laid_out : Option ℕ → (title : Option (List ℕ)) → Option Block → Colors →
    Picture → List ℕ
eps_laid_out module_um title block colors p =
    eps_comments module_um p.scale (columns_of p) (high block (rows_of p))
    ++ (title_comment title
    ++ (eps_setup (module_points module_um p.scale) (high block (rows_of p))
    ++ (eps_ground colors.light (columns_of p) (high block (rows_of p))
    ++ (eps_ink colors.dark ++ (path eps_rectangle p (rows_of p)
    ++ eps_finish block (columns_of p) (rows_of p))))))

-- The same, with a text below it, if it is given.
abbrev pub eps_captioned : Option ℕ → (title caption : Option (List ℕ)) → Colors → Picture →
    List ℕ
eps_captioned module_um title caption colors p =
    eps_laid_out module_um title (block_below module_um caption p) colors p

-- The document of a picture in black on white, with the size of a module if it is given, and
-- no title.
abbrev pub eps_text : Option ℕ → Picture → List ℕ
eps_text module_um p = eps_document module_um None no_colors p
