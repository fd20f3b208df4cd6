use Rattle.qrcode_grid.proofs.Prelude.{◌+◌, arith, mul-add-lt}
use Rattle.qrcode_grid.proofs.canvas.data.left_place.Goals as goal

pub returns-else-columns-clause-within : goal.returns-else-columns-clause-within
returns-else-columns-clause-within c =
    let w = c.args.columns.width in omega (arith, mul-add-lt (c.args.first + c.args.more) w (c.args.columns.left + 1) w c.requires.rows c.requires.pair)
