-- A field has a row.
use Rattle.std.proofs.Common.{arith}
use Rattle.qrcode_render.proofs.BandLemmas.{some_rows}
use Rattle.qrcode_render.proofs.zpl.field_rows.Goals as goal

pub returns-clause-some : goal.returns-clause-some
returns-clause-some c = some_rows c.row_length.result c.row_length.ensures.some (omega arith)
