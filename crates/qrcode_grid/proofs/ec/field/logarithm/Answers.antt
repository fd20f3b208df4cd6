use Rattle.qrcode_grid.proofs.Prelude.{ap, ◌∙◌, get_or, power, LOGS, arith}
use Rattle.qrcode_grid.proofs.FieldLaws.{logs_at}
use Rattle.qrcode_grid.proofs.ec.field.logarithm.Goals as goal

pub returns : goal.returns
returns c = ap (λ i. power 2 (get_or LOGS i 0)) c.from.ensures ∙ logs_at c.args.element (omega arith) c.requires
