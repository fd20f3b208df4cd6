-- One character more.
use Rattle.std.proofs.Common.{Bool, ◌+◌, ◌*◌, ◌/◌, ◌∙◌, ap, arith}
use Rattle.std.specs.Prelude.{if◌then◌else◌, not}
use Rattle.std.specs.{Prelude.flat_map, List.range_with_len, String.string_bytes}
use Rattle.picture_settings.proofs.Ranges.{joined}
use Rattle.grid_pictures.specs.{Picture.shown, Terminals.terminal_character}
use Rattle.grid_pictures.proofs.{PathLemmas.dark_places, TerminalLemmas.characters_copy}
use Rattle.grid_pictures.proofs.terminal.push_line.Goals as goal

pub loop-copy-preserved : goal.loop-copy-preserved
loop-copy-preserved c =
    let p = shown c.args.picture.now in
    let column = c.loop-column.column in
    let scale = c.scale-scale.result in
    let upper_dark = dark_places p c.row-row.result (2 * c.args.line / scale) 216 c.write_bytes.new.line c.write_bytes.ensures c.write_bytes.auto.line
    (omega (arith, c.columns-column-end.ensures.exact, c.columns-column-end.ensures.bound)) c.row-row.ensures.dark
    column (omega (arith, c.loop-column-test.true, c.columns-column-end.ensures.exact)) in
    let lower_dark = dark_places p c.row-next.result ((2 * c.args.line + 1) / scale) 216 c.write_bytes-2.new.line
    c.write_bytes-2.ensures c.write_bytes-2.auto.line
    (omega (arith, c.columns-column-end.ensures.exact, c.columns-column-end.ensures.bound)) c.row-next.ensures.dark
    column (omega (arith, c.loop-column-test.true, c.columns-column-end.ensures.exact)) in
    joined (string_bytes c.args.text.now)
    (flat_map (terminal_character c.args.inverted p c.args.line) (range_with_len 0 (column * scale + c.loop-copy.copy))) _ _ _ _
    (characters_copy c.args.inverted p c.args.line scale column c.loop-copy.copy c.is_filled-upper.result c.is_filled-lower.result
    c.scale-scale.ensures.exact c.loop-copy-test.true
    (c.is_filled-upper.ensures ∙ ap (λ (d : Bool). if c.args.inverted then not d else d) upper_dark)
    (c.is_filled-lower.ensures
    ∙ ap (λ (d : Bool). if c.args.inverted then not d else d) lower_dark))
    c.loop-copy.invariant
    c.in_ok-push_block.ensures
