use Rattle.qrcode_core.proofs.plugin.registry.PluginRegistry.register_encoder.Goals as goal

-- The key has the bytes of the name.
pub returns-clause-replaced : goal.returns-clause-replaced
returns-clause-replaced g c = cc (c.in_ok-replaced.ensures.replaced, c.in_ok-key.ensures.ok)
