-- The characters so far were added.
use Rattle.std.proofs.Common.{◌≡◌, ◌+◌, ◌*◌, ◌++◌}
use Rattle.std.specs.{Prelude.flat_map, List.range_with_len, String.string_bytes}
use Rattle.grid_pictures.specs.{Picture.shown, Terminals.terminal_character}
use Rattle.grid_pictures.proofs.terminal.push_line.Given as goal

abbrev pub invariant-loop-column : goal.invariant-loop-column
invariant-loop-column l = string_bytes l.text ≡ string_bytes l.initial.text
    ++ flat_map (terminal_character l.inverted (shown l.picture) l.line) (range_with_len 0 (l.column * l.scale))

abbrev pub invariant-loop-copy : goal.invariant-loop-copy
invariant-loop-copy l = string_bytes l.text ≡ string_bytes l.fn.text
    ++ flat_map (terminal_character l.inverted (shown l.picture) l.line) (range_with_len 0 (l.column * l.scale + l.copy))
