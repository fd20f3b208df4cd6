-- The contents of a registry, registrations, runs of postprocessors, and the objects in boxes.
use Rattle.std.specs.Prelude.{◌≡◌, ℕ, ◌<◌, List, [], ◌∷◌, ◌++◌, Result, take, length, MatchResult}
use Rattle.std.specs.Prelude.{◌⊎◌, Ok, Err, map}
use Rattle.std.specs.Prelude.{String, Option, option_map}
use Rattle.qrcode_core.specs.Plugins.{TextMap, with_entry, at_key, text_map, text_values}
use Rattle.qrcode_core.specs.declared.plugin.error.PluginError.{PluginError}
use Rattle.qrcode_core.specs.declared.plugin.error.PluginError.TheVariants.{OutOfMemory}
use Rattle.qrcode_core.specs.Grids.{Grid}
use Rattle.std.specs.String.{string_bytes}
use Rattle.std.specs.declared.alloc.Global.{Global}
use Rattle.std.specs.declared.dyn_box.DynBox.{DynBox}
use Rattle.qrcode_core.specs.declared.plugin.registry.PluginRegistry.{PluginRegistry}
use Rattle.qrcode_core.specs.declared.plugin.registry.QrPlugin.{QrPlugin}

-- ---- The contents of a registry, three maps and a list, and the effect of registrations

-- The contents of a registry: the versions of plugins, the renderers and the encoders by name, and
-- the postprocessors in the order of registration.
pub record Registered (R E P : Type 0) : Type 0 where
  pub plugins : TextMap (List ℕ)
  pub renderers : TextMap R
  pub encoders : TextMap E
  pub postprocessors : List P

-- The contents of an empty registry.
abbrev pub nothing_registered : {R E P : Type 0} → Registered R E P
nothing_registered = record { plugins = []; renderers = []; encoders = []; postprocessors = [] }

-- One registration: a version, a renderer or an encoder with its name, or a postprocessor.
pub data Registration (R E P : Type 0) : Type 0 where
  version_of : List ℕ → List ℕ → Registration R E P
  renderer_of : List ℕ → R → Registration R E P
  encoder_of : List ℕ → E → Registration R E P
  postprocessor_of : P → Registration R E P

-- The contents after a registration: the new object replaces one of the same name, and a
-- postprocessor comes last.
abbrev pub with_registration : {R E P : Type 0}
    → Registered R E P → Registration R E P → Registered R E P
with_registration s (version_of name version) =
    record s { plugins = with_entry s.plugins name version }
with_registration s (renderer_of name object) =
    record s { renderers = with_entry s.renderers name object }
with_registration s (encoder_of name object) =
    record s { encoders = with_entry s.encoders name object }
with_registration s (postprocessor_of object) =
    record s { postprocessors = s.postprocessors ++ object ∷ [] }

-- The contents after all these registrations, in order.
abbrev pub with_registrations : {R E P : Type 0}
    → Registered R E P → List (Registration R E P) → Registered R E P
with_registrations s [] = s
with_registrations s (x ∷ xs) = with_registrations (with_registration s x) xs

-- The contents are those after the first k of these registrations, for some k below their number.
abbrev pub RegistersBeginning : {R E P : Type 0}
    → Registered R E P → List (Registration R E P) → Registered R E P → Type 0
RegistersBeginning s all t =
    (k : ℕ) × (k < length all) × (t ≡ with_registrations s (take k all))

-- Everything is registered; or memory ran out after the first k registrations, which stay.
abbrev pub Registers : {R E P : Type 0}
    → Registered R E P → List (Registration R E P) → Result Unit PluginError → Registered R E P
    → Type 0
Registers s all r t =
    MatchResult r (λ _. t ≡ with_registrations s all)
    (λ e. (e ≡ OutOfMemory) × RegistersBeginning s all t)

-- ---- Postprocessing

-- The objects change the grid g in order, each as `step` says, and leave the grid h. The first
-- error ends the run and is its result; if there is none, the result is Ok.
abbrev pub StepsInOrder : {B : Type 0}
    → (B → Grid → Result Unit PluginError → Grid → Type 0)
    → List B → Grid → Result Unit PluginError → Grid → Type 0
StepsInOrder step [] g r h = (r ≡ Ok tt) × (h ≡ g)
StepsInOrder step (b ∷ bs) g r h =
    ((e : PluginError) × (r ≡ Err e) × step b g (Err e) h)
    ⊎ ((m : Grid) × step b g (Ok tt) m × StepsInOrder step bs m r h)

-- The object in a box, as a reference to it shows it.
abbrev pub object_in : {A : Type 0} {F : A → Type 0} → DynBox A Global F → (i : A) × F i
object_in b = (b.vtable, b.value)

-- The object that a map of boxes has at the key.
abbrev pub object_at : {A : Type 0} {F : A → Type 0}
    → TextMap (DynBox A Global F) → List ℕ → Option ((i : A) × F i)
object_at m key = option_map object_in (at_key m key)

-- The contents of a `PluginRegistry`: three ordered maps and a list.
abbrev pub registered : {A B C : Type 0} {F : A → Type 0} {G : B → Type 0} {H : C → Type 0}
    → PluginRegistry A B C F G H
    → Registered (DynBox A Global F) (DynBox B Global G) (DynBox C Global H)
registered r = record {
  plugins = text_values (text_map r.plugins);
  renderers = text_map r.renderers;
  encoders = text_map r.encoders;
  postprocessors = r.postprocessors.items;
}

-- The registration of a renderer with its name.
abbrev pub named_renderer : {R E P : Type 0} → String Global × R → Registration R E P
named_renderer e = renderer_of (string_bytes e.0) e.1

-- The registration of an encoder with its name.
abbrev pub named_encoder : {R E P : Type 0} → String Global × E → Registration R E P
named_encoder e = encoder_of (string_bytes e.0) e.1

-- The registrations of a plugin: its name and version, its renderers, its encoders,
-- its postprocessors.
abbrev pub registrations : {A B C : Type 0} {F : A → Type 0} {G : B → Type 0} {H : C → Type 0}
    → QrPlugin A B C F G H
    → List (Registration (DynBox A Global F) (DynBox B Global G) (DynBox C Global H))
registrations p =
    version_of (string_bytes p.name) (string_bytes p.version)
    ∷ (
    map named_renderer p.renderers.items
    ++ (map named_encoder p.encoders.items ++ map postprocessor_of p.postprocessors.items)
    )
