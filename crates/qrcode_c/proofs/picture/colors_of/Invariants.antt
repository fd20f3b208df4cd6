-- The colours of the bytes before this one.
use Rattle.std.proofs.Common.{◌≡◌, map, take}
use Rattle.qrcode_c.specs.Pictures.{color_of}
use Rattle.qrcode_c.proofs.picture.colors_of.Given as goal

abbrev pub invariant-loop-byte : goal.invariant-loop-byte
invariant-loop-byte l = l.colors.items ≡ map color_of (take l.byte-index l.modules)
