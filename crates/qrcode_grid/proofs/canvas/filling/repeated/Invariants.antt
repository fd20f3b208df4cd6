-- The parts before this one are written.
use Rattle.qrcode_grid.proofs.Prelude.{◌≡◌, replicate, ◌*◌}
use Rattle.qrcode_grid.proofs.canvas.filling.repeated.Given as goal

abbrev pub invariant-loop-part : goal.invariant-loop-part
invariant-loop-part g l = l.list.items ≡ replicate (1000 * l.part) l.value
