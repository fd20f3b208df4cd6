-- The symbols so far are written, and what comes after them is as before.
use Rattle.std.proofs.Common.{◌≡◌, ◌++◌, length, map, take, drop}
use Rattle.qrcode_c.specs.Shapes.{shape_of}
use Rattle.qrcode_c.specs.Spread.{bytes_of_all}
use Rattle.qrcode_c.proofs.spread.write_all.Given as goal

abbrev pub invariant-loop-i : goal.invariant-loop-i
invariant-loop-i l =
    (l.start ≡ length (bytes_of_all (take l.i l.symbols)))
    × (l.modules ≡ bytes_of_all (take l.i l.symbols) ++ drop l.start l.initial.modules)
    × (l.shapes ≡ map shape_of (take l.i l.symbols) ++ drop l.i l.initial.shapes)
