-- The colors so far are those of the rows.
use Rattle.std.proofs.Common.{◌≡◌, ◌*◌, length, flat_map}
use Rattle.std.specs.List.{range_with_len}
use Rattle.qrcode_core.specs.Symbol.{drawn_grid}
use Rattle.single_label.specs.Turns.{seen_row}
use Rattle.single_label.proofs.turned.turned_colors.Given as goal

abbrev pub invariant-loop-y : goal.invariant-loop-y
invariant-loop-y l = record {
  rows : l.colors.items ≡ flat_map (seen_row l.turn (drawn_grid l.symbol)) (range_with_len 0 l.y);
  full : length l.colors.items ≡ l.y * l.width;
}
