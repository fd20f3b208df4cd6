-- The ended bits, drawn, are held.
use Rattle.qrcode_core.proofs.Prelude.{IfOk-weaker}
use Rattle.qrcode_core.proofs.Best.{held_reading}
use Rattle.qrcode_core.proofs.symbol.owned.Symbol.with_bits.Goals as goal

pub returns-clause-reading : goal.returns-clause-reading
returns-clause-reading c = IfOk-weaker c.symbol_of.result _ _ (held_reading _ _ _ c.in_ok-push_terminator.ensures.ok) c.symbol_of.ensures.drawn
