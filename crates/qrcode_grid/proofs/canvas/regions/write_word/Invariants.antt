-- The low digits are written into the last places.
use Rattle.qrcode_grid.proofs.Prelude.{◌-◌, drop, get_or}
use Rattle.qrcode_grid.proofs.WrittenWords.{IsWritten}
use Rattle.qrcode_grid.proofs.canvas.regions.write_word.Given as goal

abbrev pub invariant-loop-k : goal.invariant-loop-k
invariant-loop-k g l = (any : _) → IsWritten (λ k. get_or l.digits k any) l.width (drop (l.count - l.k) l.places) any l.fn.cells l.cells
