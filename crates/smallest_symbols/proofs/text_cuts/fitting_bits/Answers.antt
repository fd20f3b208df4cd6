-- A text that has a choice is not too long.
use Rattle.std.proofs.Common.{arith}
use Rattle.smallest_symbols.proofs.text_cuts.fitting_bits.Goals as goal

pub returns-in-Ok-clause-fits : goal.returns-in-Ok-clause-fits
returns-in-Ok-clause-fits c long =
    let chosen = c.in-Ok.ensures.chosen in long c.in-Ok.choice.number (omega (arith, chosen.up_to)) _ chosen.fits
