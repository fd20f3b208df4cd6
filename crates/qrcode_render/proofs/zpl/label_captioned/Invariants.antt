-- The fields so far.
use Rattle.std.proofs.Common.{◌≡◌, ◌++◌}
use Rattle.std.specs.Prelude.{codes}
use Rattle.grid_pictures.specs.Picture.{shown}
use Rattle.qrcode_render.specs.Zpl.{first_fields}
use Rattle.qrcode_render.proofs.zpl.label_captioned.Given as goal

abbrev pub invariant-loop-n : goal.invariant-loop-n
invariant-loop-n l = l.bytes.items ≡ codes "^XA\n" ++ first_fields (shown l.picture) l.at l.n
