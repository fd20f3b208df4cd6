-- The text has the rectangles of the rows so far.
use Rattle.std.proofs.Common.{◌≡◌, ◌++◌}
use Rattle.std.specs.String.{string_bytes}
use Rattle.grid_pictures.specs.{Paths.path, Pens.rectangle_by, Picture.shown}
use Rattle.grid_pictures.proofs.path.push_path.Given as goal

abbrev pub invariant-loop-y : goal.invariant-loop-y
invariant-loop-y l = string_bytes l.text ≡ string_bytes l.initial.text ++ path (rectangle_by l.pen) (shown l.picture) l.y
