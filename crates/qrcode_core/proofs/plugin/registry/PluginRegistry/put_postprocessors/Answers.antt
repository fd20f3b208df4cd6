use Rattle.qrcode_core.proofs.Prelude.{err_from_is_err_and, postprocessor_of}
use Rattle.qrcode_core.proofs.Plugins.{registers_refused}
use Rattle.qrcode_core.proofs.plugin.registry.PluginRegistry.put_postprocessors.Goals as goal

pub returns-in_err-put_postprocessor : goal.returns-in_err-put_postprocessor
returns-in_err-put_postprocessor g c =
    let p = err_from_is_err_and c.from_residual.result c.from_residual.ensures.1 in
    rw (p.1, p.2) (registers_refused postprocessor_of _ _ _ _ _ _ _ _ _ c.loop-postprocessor.invariant.1 c.in-Some.ensures.steps.0
    c.loop-postprocessor.invariant.0 c.in_err-put_postprocessor.ensures)
