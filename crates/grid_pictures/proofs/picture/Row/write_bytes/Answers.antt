use Rattle.std.proofs.Common.{◌+◌, length, arith}
use Rattle.grid_pictures.proofs.RowLemmas.{all_columns}
use Rattle.grid_pictures.proofs.picture.Row.write_bytes.Goals as goal

pub returns : goal.returns
returns c =
    all_columns c.args.self.now c.loop-i.line (length c.args.line.now) (c.args.self.now.quiet + c.loop-i.i) (omega arith) (omega arith)
    c.loop-i.invariant.written c.loop-i.invariant.left
