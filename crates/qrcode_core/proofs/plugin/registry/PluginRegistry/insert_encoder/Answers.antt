-- The tree's entries are read as texts.
use Rattle.qrcode_core.proofs.Plugins.{text_entries_insert}
use Rattle.qrcode_core.proofs.plugin.registry.PluginRegistry.insert_encoder.Goals as goal

pub returns-clause-ok : goal.returns-clause-ok
returns-clause-ok g c = cc (c.in_ok-replaced.ensures.entries, text_entries_insert c.args.self.now.encoders.entries c.args.name c.args.encoder)
