-- No plan fits a version before the candidates that are left.
use Rattle.qrcode_bits.proofs.Prelude.{drop}
use Rattle.qrcode_bits.proofs.Classes.{IsSearched}
use Rattle.qrcode_bits.proofs.bits.fitting.fits_up_to.Given as goal

abbrev pub invariant-loop-last : goal.invariant-loop-last
invariant-loop-last l = IsSearched 1 l.ahead l.bytes l.level l.limit (drop l.last-index l.last-items)
