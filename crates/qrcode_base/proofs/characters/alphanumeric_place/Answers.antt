use Rattle.qrcode_base.proofs.Prelude.{arith}
use Rattle.qrcode_base.proofs.Alphabet.{PLACES-some}
use Rattle.qrcode_base.proofs.characters.alphanumeric_place.Goals as goal

pub returns-then-place-lt45 : goal.returns-then-place-lt45
returns-then-place-lt45 c = grind (arith, PLACES-some c.args.c c.from-then-place-lt45.result, c.from-then-place-lt45.ensures, c.from.ensures)
