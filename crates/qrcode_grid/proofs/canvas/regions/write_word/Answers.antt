use Rattle.qrcode_grid.proofs.Prelude.{◌+◌, ◌-◌, ◌*◌, ◌<◌, length, get_or, arith, rules, get_or_default}
use Rattle.qrcode_grid.proofs.WrittenWords.{cell_within, next_written}
use Rattle.qrcode_grid.proofs.canvas.regions.write_word.Goals as goal

pub loop-k-preserved : goal.loop-k-preserved
loop-k-preserved g c = grind (arith, next_written, get_or_default)

pub offset_bounds-cells-y : goal.offset_bounds-cells-y
offset_bounds-cells-y g c =
    let ps = c.args.places.now in let w = c.args.width in let p = get_or ps (length ps - 1 - c.loop-k.k) (0, 0) in
    let at : length ps - 1 - c.loop-k.k < length ps = omega (arith, c.loop-k-test.true) in
    let inside = c.requires.within (length ps - 1 - c.loop-k.k) (0, 0) at in
    let within : p.1 * w + p.0 < length c.args.cells.now = omega (arith, c.requires.square, cell_within w p.0 p.1 inside.0 inside.1) in
    search rules
