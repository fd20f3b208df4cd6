-- The text has the lines so far.
use Rattle.std.proofs.Common.{◌≡◌}
use Rattle.std.specs.String.{string_bytes}
use Rattle.grid_pictures.specs.{Picture.shown, Terminals.lines_of}
use Rattle.grid_pictures.proofs.terminal.terminal.Given as goal

abbrev pub invariant-loop-line : goal.invariant-loop-line
invariant-loop-line l = string_bytes l.text ≡ lines_of l.inverted (shown l.picture) l.line
