-- The bytes so far were added.
use Rattle.std.proofs.Common.{◌≡◌, ◌++◌}
use Rattle.grid_pictures.specs.Texts.{repeated}
use Rattle.grid_pictures.proofs.text.push_times.Given as goal

abbrev pub invariant-loop-copy : goal.invariant-loop-copy
invariant-loop-copy l = l.bytes.items ≡ l.fn.bytes.items ++ repeated l.copy l.line
