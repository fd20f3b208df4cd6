use Rattle.qrcode_grid.proofs.Prelude.{arith}
use Rattle.qrcode_grid.proofs.WrittenWords.{dark_written, over_three, second_within}
use Rattle.qrcode_grid.proofs.canvas.regions.write_format.Goals as goal

pub returns-in-Normal : goal.returns-in-Normal
returns-in-Normal g c = grind (arith, dark_written, over_three)

pub write_word-requires-clause-within : goal.write_word-requires-clause-within
write_word-requires-clause-within g c = second_within c.args.width (omega arith)
