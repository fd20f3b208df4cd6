-- The digits so far are written.
use Rattle.std.proofs.Common.{◌≡◌, ◌*◌, take}
use Rattle.std.specs.Prelude.{flat_map}
use Rattle.qrcode_render.specs.Zpl.{hex_pair}
use Rattle.qrcode_render.proofs.zpl.write_hex.Given as goal

abbrev pub invariant-loop-i : goal.invariant-loop-i
invariant-loop-i l = take (2 * l.i) l.digits ≡ flat_map hex_pair (take l.i l.content)
