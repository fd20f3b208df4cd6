use Rattle.qrcode_core.proofs.Prelude.{err_from_is_err_and, [], ◌∷◌, ◌++◌, map, Err, string_bytes, named_renderer, named_encoder, version_of, postprocessor_of}
use Rattle.qrcode_core.proofs.Plugins.{registers_then, registers_stops}
use Rattle.qrcode_core.proofs.plugin.registry.PluginRegistry.register_plugin.Goals as goal

pub returns-in_err-put_renderers : goal.returns-in_err-put_renderers
returns-in_err-put_renderers g c =
    let p = err_from_is_err_and c.from_residual-in_err-put_renderers.result c.from_residual-in_err-put_renderers.ensures.1 in
    let refused = c.in_err-put_renderers in
    let versions = version_of (string_bytes c.args.plugin.name) (string_bytes c.args.plugin.version) ∷ [] in
    rw (p.1, p.2) (registers_then _ _ _ versions _ (Err refused.field-0.0) c.in_ok-put_version.ensures
    (registers_stops _ _ (map named_renderer c.args.plugin.renderers.items) _ refused.field-0.0 refused.ensures))

pub returns-in_err-put_encoders : goal.returns-in_err-put_encoders
returns-in_err-put_encoders g c =
    let p = err_from_is_err_and c.from_residual-in_err-put_encoders.result c.from_residual-in_err-put_encoders.ensures.1 in
    let refused = c.in_err-put_encoders in
    let versions = version_of (string_bytes c.args.plugin.name) (string_bytes c.args.plugin.version) ∷ [] in
    rw (p.1, p.2) (registers_then _ _ _ versions _ (Err refused.field-0.0) c.in_ok-put_version.ensures
    (registers_then _ _ _ (map named_renderer c.args.plugin.renderers.items) _ (Err refused.field-0.0) c.in_ok-put_renderers.ensures
    (registers_stops _ _ (map named_encoder c.args.plugin.encoders.items) _ refused.field-0.0 refused.ensures)))

pub returns : goal.returns
returns g c =
    let last = c.put_postprocessors in
    let plugin = c.args.plugin in
    registers_then _ _ _ (version_of (string_bytes plugin.name) (string_bytes plugin.version) ∷ [])
    (map named_renderer plugin.renderers.items ++ (map named_encoder plugin.encoders.items ++ map postprocessor_of plugin.postprocessors.items))
    last.result c.in_ok-put_version.ensures
    (registers_then _ _ _ (map named_renderer plugin.renderers.items) (map named_encoder plugin.encoders.items
    ++ map postprocessor_of plugin.postprocessors.items)
    last.result c.in_ok-put_renderers.ensures
    (registers_then _ _ _ (map named_encoder plugin.encoders.items) (map postprocessor_of plugin.postprocessors.items) last.result
    c.in_ok-put_encoders.ensures last.ensures))
