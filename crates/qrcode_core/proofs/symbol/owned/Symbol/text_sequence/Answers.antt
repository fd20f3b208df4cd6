-- The limit of the versions is passed on as it is.
use Rattle.qrcode_core.proofs.Prelude.{to_z-of_z}
use mir.Syntax.{w16}
use Rattle.qrcode_core.proofs.symbol.owned.Symbol.text_sequence.Goals as goal

pub returns-clause-fitting : goal.returns-clause-fitting
returns-clause-fitting c = rw (to_z-of_z w16 c.args.max_version c.ranges.max_version, c.as_bytes.ensures.value) at c.symbols_of.ensures.fitting

pub returns-clause-refusal : goal.returns-clause-refusal
returns-clause-refusal c = rw (to_z-of_z w16 c.args.max_version c.ranges.max_version, c.as_bytes.ensures.value) at c.symbols_of.ensures.refusal
