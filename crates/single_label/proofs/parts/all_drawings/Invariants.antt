-- The drawings so far are joined.
use Rattle.std.proofs.Common.{◌≡◌, map, take, vec_items}
use Rattle.single_label.specs.Parts.{all_drawings}
use Rattle.single_label.proofs.parts.all_drawings.Given as goal

abbrev pub invariant-loop-drawing : goal.invariant-loop-drawing
invariant-loop-drawing l = l.all.items ≡ all_drawings (map vec_items (take l.drawing-index l.drawings))
