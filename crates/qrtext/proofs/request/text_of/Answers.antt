-- A row that is written gives a line.
use Rattle.std.proofs.Common.{arith, ◌≡◌, ℕ, ◌+◌, ◌≤◌, List, [], ◌∷◌, ◌++◌, length, map, take, sym, ap}
use Rattle.std.proofs.lemmas.Grind.{common_steps}
use Rattle.qrcode_core.specs.{Symbol.drawn_grid, Grids.Grid, Grids.row_of}
use Rattle.qrtext.{specs.Drawing.text_lines, specs.Drawing.module_character, proofs.TextLemmas.lines_more}
use Rattle.qrtext.proofs.request.text_of.Goals as goal

line_ended : (grid : Grid) (y n : ℕ) (text more : List ℕ) → more ≡ text ++ 10 ∷ [] → length (row_of grid y) ≤ n →
    text ≡ text_lines grid y ++ map module_character (take n (row_of grid y)) → more ≡ text_lines grid (y + 1)
line_ended grid y n text more ended whole is = grind (arith, common_steps, lines_more grid y)

pub loop-y-preserved : goal.loop-y-preserved
loop-y-preserved c =
    let grid = drawn_grid c.args.symbol.now in
    let same : length (row_of grid c.loop-y.y) ≡ length c.row-row.result.now = ap length (sym c.row-row.ensures) in
    line_ended grid c.loop-y.y c.loop-color.color-index c.loop-color.text.items _ c.in_ok-push-2.ensures.items
    (omega (arith, c.loop-color-test.false, same)) c.loop-color.invariant
