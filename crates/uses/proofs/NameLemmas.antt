-- Three renderers by their names.
use Rattle.std.proofs.Common.{◌≡◌, ◌≢◌, ℕ, List, [], ◌∷◌, Some, None, false, refl, ◌∙◌, inl, inr}
use Rattle.std.specs.Prelude.{codes, ◌⊎◌, IfSome, IfNone, Result, Err}
use Rattle.std.{specs.Ordering.is_eq, specs.Str.bytes_eq, proofs.lemmas.Bool.false_from_ne_true, proofs.lemmas.Map.Text.is_eq-slice_cmp}
use Rattle.std.{proofs.lemmas.Slice.Eq.bytes_eq-Decides, specs.declared.alloc.Global.Global, specs.declared.dyn_box.DynBox.DynBox}
use Rattle.qrcode_core.specs.Registries.{Registered, nothing_registered, with_registration, renderer_of, object_in, object_at}
use Rattle.qrcode_core.specs.{declared.plugin.config.RenderConfig.RenderConfig, declared.plugin.error.PluginError.PluginError}
use Rattle.qrcode_core.specs.{declared.plugin.error.PluginError.TheVariants.InvalidConfig, declared.plugin.error.PluginError.TheVariants.OutOfMemory}
use Rattle.qrcode_core.specs.{declared.plugin.output.RenderOutput.RenderOutput, Grids.Grid, Plugins.TextMap, Plugins.at_key, Plugins.text_cmp}
use Rattle.qrcode_render.specs.{declared.format.Format.Format, Renderers.Renders, Renderers.Validates}

-- the three, in the order of their names
abbrev pub three : {V : Type 0} → (svg pbm terminal : V) → TextMap V
three svg pbm terminal = (codes "pbm", pbm) ∷ (codes "svg", svg) ∷ (codes "terminal", terminal) ∷ []

-- they are what a registry holds in which they were registered one after the other
pub holds_three : {R E P : Type 0} (s0 s1 s2 s3 : Registered R E P) (svg pbm terminal : R) → s0 ≡ nothing_registered
    → s1 ≡ with_registration s0 (renderer_of (codes "svg") svg)
    → s2 ≡ with_registration s1 (renderer_of (codes "pbm") pbm)
    → s3 ≡ with_registration s2 (renderer_of (codes "terminal") terminal)
    → s3.renderers ≡ three svg pbm terminal
holds_three s0 s1 s2 s3 svg pbm terminal e0 e1 e2 e3 = rw (e3, e2, e1, e0) refl

-- each is found by its name
pub at_svg : {V : Type 0} (svg pbm terminal : V) → at_key (three svg pbm terminal) (codes "svg") ≡ Some svg
at_svg svg pbm terminal = refl

pub at_pbm : {V : Type 0} (svg pbm terminal : V) → at_key (three svg pbm terminal) (codes "pbm") ≡ Some pbm
at_pbm svg pbm terminal = refl

pub at_terminal : {V : Type 0} (svg pbm terminal : V) → at_key (three svg pbm terminal) (codes "terminal") ≡ Some terminal
at_terminal svg pbm terminal = refl

-- another name is not that of an entry
other : (name key : List ℕ) → name ≢ key → is_eq (text_cmp name key) ≡ false
other name key apart = is_eq-slice_cmp name key ∙ false_from_ne_true (bytes_eq name key) (λ same. apart ((bytes_eq-Decides name key).0 same))

pub at_others : {V : Type 0} (svg pbm terminal : V) (name : List ℕ) → name ≢ codes "svg" → name ≢ codes "pbm" → name ≢ codes "terminal"
    → at_key (three svg pbm terminal) name ≡ None
at_others svg pbm terminal name not_svg not_pbm not_terminal =
    rw (other name (codes "pbm") not_pbm, other name (codes "svg") not_svg, other name (codes "terminal") not_terminal) refl

-- what holds of the object of an entry that is looked up
pub object_there : {A : Type 0} {F : A → Type 0} (m n : TextMap (DynBox A Global F)) (name key : List ℕ) (b : DynBox A Global F) (P : (i : A) × F i → Type 0)
    → m ≡ n → name ≡ key → at_key n key ≡ Some b → IfSome (object_at m name) P → P (object_in b)
object_there m n name key b P same named there h = rw (same, named, there) at h

-- no object where no entry is looked up
pub nothing_there : {A : Type 0} {F : A → Type 0} (m n : TextMap (DynBox A Global F)) (name : List ℕ) (Q : Type 0)
    → m ≡ n → at_key n name ≡ None → IfNone (object_at m name) Q → Q
nothing_there m n name Q same none h = rw (same, none) at h

-- a configuration that `validate_config` rejects is rejected by the renderer
refused_alike : (format : Format) (grid : Grid) (config : RenderConfig) (error : PluginError) → Validates format config (Err error) →
    Renders format grid config (Err error)
refused_alike format grid config (InvalidConfig s) h = h
refused_alike format grid config OutOfMemory h = tt
refused_alike format grid config other h = absurd h

-- the result for a name, where the renderer draws or its `validate_config` fails
pub drawn_by_name : (format : Format) (grid : Grid) (config : RenderConfig) (answer : Result RenderOutput PluginError)
    → Renders format grid config answer ⊎ ((error : PluginError) × (answer ≡ Err error) × Validates format config (Err error))
    → Renders format grid config answer
drawn_by_name format grid config answer (inl drawn) = drawn
drawn_by_name format grid config answer (inr (error, is, refused)) = rw is (refused_alike format grid config error refused)
