-- So many symbols have given their modules, and the others are still to come.
use Rattle.qrcode_core.proofs.Prelude.{◌≡◌, ◌++◌, map, modules_of}
use Rattle.std.proofs.Common.{vec_items}
use Rattle.qrcode_core.proofs.symbol.sequence.colors_of_all.Given as goal

abbrev pub invariant-loop-symbol : goal.invariant-loop-symbol
invariant-loop-symbol l = (map vec_items l.grids.items ≡ map modules_of l.yielded) × (l.fn.symbols.items ≡ l.yielded ++ l.symbol-iterator.rest.items)
