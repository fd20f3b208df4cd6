-- The text has the lines of the first rows, and the first characters of the next row.
use Rattle.std.proofs.Common.{◌≡◌, ◌++◌, map, take}
use Rattle.qrcode_core.specs.{Symbol.drawn_grid, Grids.row_of}
use Rattle.qrtext.specs.Drawing.{text_lines, module_character}
use Rattle.qrtext.proofs.request.text_of.Given as goal

abbrev pub invariant-loop-y : goal.invariant-loop-y
invariant-loop-y l = l.text.items ≡ text_lines (drawn_grid l.symbol) l.y

abbrev pub invariant-loop-color : goal.invariant-loop-color
invariant-loop-color l =
    l.text.items ≡ text_lines (drawn_grid l.symbol) l.y ++ map module_character (take l.color-index (row_of (drawn_grid l.symbol) l.y))
