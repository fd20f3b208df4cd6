use Rattle.qrcode_core.proofs.Prelude.{err_from_is_err_and, named_encoder}
use Rattle.qrcode_core.proofs.Plugins.{registers_refused}
use Rattle.qrcode_core.proofs.plugin.registry.PluginRegistry.put_encoders.Goals as goal

pub returns-in_err-put_encoder : goal.returns-in_err-put_encoder
returns-in_err-put_encoder g c =
    let p = err_from_is_err_and c.from_residual.result c.from_residual.ensures.1 in
    rw (p.1, p.2) (registers_refused named_encoder _ _ _ _ _ _ _ _ _ c.loop-name.invariant.1 c.in-Some.ensures.steps.0
    c.loop-name.invariant.0 c.in_err-put_encoder.ensures)
