use Rattle.qrcode_core.proofs.Prelude.{◌≡◌, ◌++◌, map, registered, with_registrations, postprocessor_of}
use Rattle.qrcode_core.proofs.plugin.registry.PluginRegistry.put_postprocessors.Given as goal

-- the yielded items are registered, and the others are still to come
abbrev pub invariant-loop-postprocessor : goal.invariant-loop-postprocessor
invariant-loop-postprocessor g l =
    (registered l.self ≡ with_registrations (registered l.initial.self) (map postprocessor_of l.yielded))
    × (l.fn.all.items ≡ l.yielded ++ l.postprocessor-iterator.rest.items)
