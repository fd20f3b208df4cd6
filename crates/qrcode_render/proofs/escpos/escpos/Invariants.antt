-- The bands so far.
use Rattle.std.proofs.Common.{◌≡◌}
use Rattle.grid_pictures.specs.Picture.{shown}
use Rattle.qrcode_render.specs.EscPos.{first_bands}
use Rattle.qrcode_render.proofs.escpos.escpos.Given as goal

abbrev pub invariant-loop-n : goal.invariant-loop-n
invariant-loop-n l = l.bytes.items ≡ first_bands (shown l.picture) l.n
