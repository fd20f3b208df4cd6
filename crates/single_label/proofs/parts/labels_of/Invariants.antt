-- The labels so far are those of the symbols before.
use Rattle.std.proofs.Common.{map, take, vec_items}
use Rattle.single_label.specs.Parts.{ShowEach}
use Rattle.single_label.proofs.parts.labels_of.Given as goal

abbrev pub invariant-loop-symbol : goal.invariant-loop-symbol
invariant-loop-symbol l = ShowEach l.label l.options (take l.symbol-index l.symbols) (map vec_items l.drawings.items)
