use Rattle.qrcode_core.proofs.Prelude.{◌≡◌, ◌++◌, map, registered, named_renderer, with_registrations}
use Rattle.qrcode_core.proofs.plugin.registry.PluginRegistry.put_renderers.Given as goal

-- the yielded items are registered, and the others are still to come
abbrev pub invariant-loop-name : goal.invariant-loop-name
invariant-loop-name g l =
    (registered l.self ≡ with_registrations (registered l.initial.self) (map named_renderer l.yielded))
    × (l.fn.all.items ≡ l.yielded ++ l.name-iterator.rest.items)
