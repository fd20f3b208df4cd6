-- The first cuts are written, and the others are as before.
use Rattle.std.proofs.Common.{◌≡◌, ◌++◌, take, drop}
use Rattle.qrcode_c.proofs.cuts.write_cuts.Given as goal

abbrev pub invariant-loop-i : goal.invariant-loop-i
invariant-loop-i l = l.cuts ≡ take l.i l.found ++ drop l.i l.initial.cuts
