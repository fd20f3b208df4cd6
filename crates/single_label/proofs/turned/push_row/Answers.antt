-- One color more of the row.
use Rattle.std.proofs.Common.{arith, append_assoc}
use Rattle.std.proofs.lemmas.{Grind.common_steps, List.FromFn.map-range_with_len_more}
use Rattle.qrcode_core.specs.Symbol.{drawn_grid}
use Rattle.single_label.specs.Turns.{seen_at}
use Rattle.single_label.proofs.turned.push_row.Goals as goal

pub loop-x-preserved : goal.loop-x-preserved
loop-x-preserved c =
    grind (
      arith,
      common_steps,
      append_assoc,
      c.loop-x.invariant,
      map-range_with_len_more (seen_at c.args.turn (drawn_grid c.args.symbol.now) c.args.y) 0 c.loop-x.x c.loop-x.x (omega arith),
    )
