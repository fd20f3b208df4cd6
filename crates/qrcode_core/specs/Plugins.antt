-- The values of plugins, as contracts see them: maps with strings as keys, errors, configurations,
-- grids and outputs.
use Rattle.std.specs.Prelude.{ℕ, List, [], ◌∷◌, Option, map, String, ◌≡◌, option_map}
use Rattle.std.specs.declared.cmp.Ordering.{Ordering}
use Rattle.std.specs.Ordering.{nat_cmp}
use Rattle.std.specs.Cmp.Lexicographic.{slice_cmp}
use Rattle.std.specs.BTreeMap.{BTreeMap, insert_entry, is_at}
use Rattle.std.specs.Map.{lookup}
use Rattle.std.specs.String.{string_bytes}
use Rattle.std.specs.declared.alloc.Global.{Global}
use Rattle.qrcode_core.specs.declared.plugin.names.Names.{Names}
use Rattle.qrcode_core.specs.declared.plugin.error.PluginError.{PluginError}
use Rattle.qrcode_core.specs.declared.plugin.error.PluginError.TheVariants.{RendererNotFound}
use Rattle.qrcode_core.specs.declared.plugin.error.PluginError.TheVariants.{EncoderNotFound}
use Rattle.qrcode_core.specs.declared.plugin.error.PluginError.TheVariants.{InvalidConfig}
use Rattle.qrcode_core.specs.declared.plugin.error.PluginError.TheVariants.{InvalidModuleGrid}
use Rattle.qrcode_core.specs.declared.plugin.error.PluginError.TheVariants.{RenderFailed}
use Rattle.qrcode_core.specs.declared.plugin.error.PluginError.TheVariants.{EncodeFailed}
use Rattle.qrcode_core.specs.declared.plugin.error.PluginError.TheVariants.{PostProcessFailed}
use Rattle.qrcode_core.specs.declared.plugin.error.PluginError.TheVariants.{OutOfMemory}
use Rattle.qrcode_core.specs.declared.plugin.config.EncodeConfig.{EncodeConfig}
use Rattle.qrcode_core.specs.declared.plugin.config.RenderConfig.{RenderConfig}
use Rattle.qrcode_core.specs.declared.plugin.grid.ModuleGrid.{ModuleGrid}
use Rattle.qrcode_core.specs.Grids.{Grid, grid_of}
use Rattle.qrcode_core.specs.declared.plugin.output.EncodedOutput.{EncodedOutput}
use Rattle.qrcode_core.specs.declared.plugin.output.RenderOutput.{RenderOutput}
use Rattle.qrcode_core.specs.declared.plugin.output.RenderOutput.TheVariants.{Text, Bytes, Modules}
use Rattle.qrcode_core.specs.declared.plugin.output.EncodedOutput.TheVariants as encoded

-- The order of strings: the first byte that differs decides, and a prefix comes first.
abbrev pub text_cmp : List ℕ → List ℕ → Ordering
text_cmp = slice_cmp nat_cmp

-- A map with strings as keys: its entries in the order of the keys.
abbrev pub TextMap : Type 0 → Type 0
TextMap V = List (List ℕ × V)

-- The map of the entries of a tree of strings.
abbrev pub text_entries : {V : Type 0} → List (String Global × V) → TextMap V
text_entries [] = []
text_entries (e ∷ es) = (string_bytes e.0, e.1) ∷ text_entries es

-- The map that a `BTreeMap` holds.
abbrev pub text_map : {V : Type 0} → BTreeMap (String Global) V → TextMap V
text_map m = text_entries m.entries

-- The map with this value at the key, in place of the old one if there is one.
abbrev pub with_entry : {V : Type 0} → TextMap V → List ℕ → V → TextMap V
with_entry m key value = insert_entry text_cmp m key value

-- The value of the map at the key, if there is one.
abbrev pub at_key : {V : Type 0} → TextMap V → List ℕ → Option V
at_key m key = lookup (is_at (text_cmp key)) m

-- The keys, in order.
abbrev pub key_texts : {V : Type 0} → TextMap V → List (List ℕ)
key_texts m = map (λ e. e.0) m

-- The map with the bytes of each string as its values.
abbrev pub text_values : TextMap (String Global) → TextMap (List ℕ)
text_values [] = []
text_values (e ∷ es) = (e.0, string_bytes e.1) ∷ text_values es

-- ---- Names

-- The names that an iterator has yet to return, in order.
abbrev pub names_left : {V : Type 0} → Names V → List (List ℕ)
names_left s = map string_bytes s.keys

-- ---- Errors of the registry and of its objects: which are equal, and which report a missing name

-- The errors are of the same kind and have the same text.
abbrev pub IsSameError : PluginError → PluginError → Type 0
IsSameError (RendererNotFound s) (RendererNotFound t) = string_bytes t ≡ string_bytes s
IsSameError (EncoderNotFound s) (EncoderNotFound t) = string_bytes t ≡ string_bytes s
IsSameError (InvalidConfig s) (InvalidConfig t) = string_bytes t ≡ string_bytes s
IsSameError InvalidModuleGrid InvalidModuleGrid = Unit {0}
IsSameError (RenderFailed s) (RenderFailed t) = string_bytes t ≡ string_bytes s
IsSameError (EncodeFailed s) (EncodeFailed t) = string_bytes t ≡ string_bytes s
IsSameError (PostProcessFailed s) (PostProcessFailed t) = string_bytes t ≡ string_bytes s
IsSameError OutOfMemory OutOfMemory = Unit {0}
IsSameError _ _ = ⊥

-- The error reports that there is no renderer of this name, or that there was no memory for
-- the name.
abbrev pub IsRendererMissing : List ℕ → PluginError → Type 0
IsRendererMissing name (RendererNotFound s) = string_bytes s ≡ name
IsRendererMissing name OutOfMemory = Unit {0}
IsRendererMissing name _ = ⊥

-- The error reports that there is no encoder of this name, or that there was no memory for
-- the name.
abbrev pub IsEncoderMissing : List ℕ → PluginError → Type 0
IsEncoderMissing name (EncoderNotFound s) = string_bytes s ≡ name
IsEncoderMissing name OutOfMemory = Unit {0}
IsEncoderMissing name _ = ⊥

-- ---- The values of configurations and of an owned grid

-- The format of a configuration.
abbrev pub render_format : RenderConfig → Option (List ℕ)
render_format c = option_map string_bytes c.format

-- The options of a renderer's configuration, as a map from strings to strings.
abbrev pub render_options : RenderConfig → TextMap (List ℕ)
render_options c = text_values (text_map c.options)

-- The options of an encoder's configuration.
abbrev pub encode_options : EncodeConfig → TextMap (List ℕ)
encode_options c = text_values (text_map c.options)

-- The grid of a `ModuleGrid`.
abbrev pub owned_grid : ModuleGrid → Grid
owned_grid g = grid_of g.modules.items g.width g.height

-- ---- Outputs of renderers and encoders: which are equal

-- The outputs are of the same kind and have the same text, bytes or grid.
abbrev pub IsSameRender : RenderOutput → RenderOutput → Type 0
IsSameRender (Text s) (Text t) = string_bytes t ≡ string_bytes s
IsSameRender (Bytes b) (Bytes c) = c.items ≡ b.items
IsSameRender (Modules g) (Modules h) = owned_grid h ≡ owned_grid g
IsSameRender _ _ = ⊥

-- The outputs are of the same kind and have the same grid or bytes.
abbrev pub IsSameEncoded : EncodedOutput → EncodedOutput → Type 0
IsSameEncoded (encoded.Modules g) (encoded.Modules h) = owned_grid h ≡ owned_grid g
IsSameEncoded (encoded.Bytes b) (encoded.Bytes c) = c.items ≡ b.items
IsSameEncoded _ _ = ⊥
