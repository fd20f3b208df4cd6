-- One row more.
use Rattle.std.proofs.Common.{arith}
use Rattle.std.proofs.lemmas.{Grind.common_steps, List.FromFn.length-map-range_with_len}
use Rattle.programs.proofs.Ranges.{flat_map_range}
use Rattle.qrcode_core.specs.Symbol.{drawn_grid}
use Rattle.single_label.specs.Turns.{seen_row, seen_at}
use Rattle.single_label.proofs.turned.turned_colors.Goals as goal

pub loop-y-preserved : goal.loop-y-preserved
loop-y-preserved c =
    let g = drawn_grid c.args.symbol.now in
    let y = c.loop-y.y in
    record {
      rows = grind (arith, common_steps, c.loop-y.invariant.rows, flat_map_range (seen_row c.args.turn g) y);
      full = grind (arith, common_steps, c.loop-y.invariant.full, length-map-range_with_len (seen_at c.args.turn g y) 0 g.columns);
    }
