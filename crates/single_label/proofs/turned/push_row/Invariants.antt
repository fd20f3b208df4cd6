-- The colors so far are those of the row.
use Rattle.std.proofs.Common.{◌≡◌, ◌++◌, map}
use Rattle.std.specs.List.{range_with_len}
use Rattle.qrcode_core.specs.Symbol.{drawn_grid}
use Rattle.single_label.specs.Turns.{seen_at}
use Rattle.single_label.proofs.turned.push_row.Given as goal

abbrev pub invariant-loop-x : goal.invariant-loop-x
invariant-loop-x l =
    l.colors.items ≡ l.initial.colors.items ++ map (seen_at l.turn (drawn_grid l.symbol) l.y) (range_with_len 0 l.x)
