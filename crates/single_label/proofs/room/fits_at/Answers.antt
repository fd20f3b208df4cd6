-- The reason why there is no symbol.
use Rattle.std.proofs.Common.{arith}
use Rattle.single_label.proofs.room.fits_at.Goals.{in-Ok, in-Err}
use Rattle.single_label.proofs.room.fits_at.Goals as goal

pub returns-clause-stops : goal.returns-clause-stops
returns-clause-stops c = λ no. elim c.match-content_symbol.branch [
  | in-Ok w ↦ absurd (grind (arith, w.result-is, no))
  | in-Err w ↦ (w.in-Err.field-0, w.in-Err.ensures.refusal)
]
