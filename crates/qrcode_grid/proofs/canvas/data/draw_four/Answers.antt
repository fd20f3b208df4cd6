use Rattle.qrcode_grid.proofs.Prelude.{bits_from, arith}
use Rattle.qrcode_grid.proofs.canvas.data.draw_four.Goals as goal

pub returns-in-Some-clause-fills : goal.returns-in-Some-clause-fills
returns-in-Some-clause-fills c = grind (arith, c.draw_eight.ensures (bits_from c.args.streams c.in-Some.rest))
