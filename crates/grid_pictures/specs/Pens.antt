-- The rectangles of a path, by the format that it is written for.
use Rattle.std.specs.Prelude.{ℕ, List, ◌++◌, codes, decimal}
use Rattle.grid_pictures.specs.declared.pen.Pen.{Pen}
use Rattle.grid_pictures.specs.declared.pen.Pen.TheVariants.{Svg, Eps, Pdf}

-- The rectangle of SVG that covers `length` modules from column x of row y on: a line, which is as
-- wide as a module. The path is moved down by half a module, so that it is the middle of the row.
unfoldable pub rectangle : ℕ → ℕ → ℕ → List ℕ
rectangle x y length =
    codes "M" ++ (decimal x ++ (codes " " ++ (decimal y ++ (codes "h" ++ decimal length))))

-- The rectangle of PostScript that covers `length` modules from column x of row y on.
unfoldable pub eps_rectangle : ℕ → ℕ → ℕ → List ℕ
eps_rectangle x y length =
    decimal length ++ (codes " " ++ (decimal x ++ (codes " " ++ (decimal y ++ codes " r\n"))))

-- The rectangle of PDF that covers `length` modules from column x of row y on.
unfoldable pub pdf_rectangle : ℕ → ℕ → ℕ → List ℕ
pdf_rectangle x y length =
    decimal x ++ (codes " " ++ (decimal y ++ (codes " " ++ (decimal length ++ codes " 1 re\n"))))

-- The rectangle that covers some modules of a row, as the format writes it.
abbrev pub rectangle_by : Pen → ℕ → ℕ → ℕ → List ℕ
rectangle_by Svg = rectangle
rectangle_by Eps = eps_rectangle
rectangle_by Pdf = pdf_rectangle
