-- So many modules are written, and the others are as before.
use Rattle.std.proofs.Common.{◌≡◌, ◌++◌, map, take, drop}
use Rattle.qrcode_grid.specs.Penalty.{byte_of}
use Rattle.qrcode_c.proofs.drawing.write_modules.Given as goal

abbrev pub invariant-loop-i : goal.invariant-loop-i
invariant-loop-i l = l.modules ≡ map byte_of (take l.i l.colors) ++ drop l.i l.initial.modules
