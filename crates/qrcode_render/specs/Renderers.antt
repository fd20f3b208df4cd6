-- The results of the renderers.
use Rattle.std.specs.Prelude.{◌≡◌, ℕ, Bool, true, false, List, Result, Ok, Err}
use Rattle.std.specs.String.{string_bytes}
use Rattle.qrcode_core.specs.declared.plugin.config.RenderConfig.{RenderConfig}
use Rattle.qrcode_core.specs.declared.plugin.error.PluginError.{PluginError}
use Rattle.qrcode_core.specs.declared.plugin.error.PluginError.TheVariants.{InvalidConfig}
use Rattle.qrcode_core.specs.declared.plugin.error.PluginError.TheVariants.{RenderFailed}
use Rattle.qrcode_core.specs.declared.plugin.error.PluginError.TheVariants.{OutOfMemory}
use Rattle.qrcode_core.specs.declared.plugin.output.RenderOutput.{RenderOutput}
use Rattle.qrcode_core.specs.declared.plugin.output.RenderOutput.TheVariants.{Text, Bytes}
use Rattle.qrcode_core.specs.Plugins.{render_options}
use Rattle.qrcode_core.specs.Grids.{Grid}
use Rattle.picture_settings.specs.declared.format.Format.{Format}
use Rattle.picture_settings.specs.declared.settings.Settings.{Settings}
use Rattle.picture_settings.specs.Configs.{AsksSettings, RefusesName}
use Rattle.picture_settings.specs.Formats.{is_text_format}
use Rattle.grid_pictures.specs.Pictures.{IsDrawable}
use Rattle.qrcode_render.specs.SettingDrawings.{ShowsAsAsked}

-- The output has these bytes, as a text or as bytes.
abbrev pub IsOutput : (is_text : Bool) → List ℕ → RenderOutput → Type 0
IsOutput true bytes (Text text) = string_bytes text ≡ bytes
IsOutput false bytes (Bytes vec) = vec.items ≡ bytes
IsOutput _ _ _ = ⊥

-- The output shows the grid in a format, as the configuration asks.
pub record DrawsGrid (format : Format) (grid : Grid) (config : RenderConfig)
    (output : RenderOutput) : Type 0 where
  pub settings : Settings
  pub asked : AsksSettings format (render_options config) settings
  pub drawable : IsDrawable grid
  pub bytes : List ℕ
  pub has_bytes : IsOutput (is_text_format format) bytes output
  pub shows : ShowsAsAsked format settings grid bytes

-- The errors of a renderer, and when each is returned: an option is refused, and the error has its
-- name; the grid cannot be drawn (`impossible`); or memory ran out.
abbrev pub IsRendererRefusal : (Invalid : List ℕ → Type 0) → (impossible : Type 0) →
    PluginError → Type 0
IsRendererRefusal Invalid impossible (InvalidConfig what) = Invalid (string_bytes what)
IsRendererRefusal Invalid impossible (RenderFailed what) = impossible
IsRendererRefusal Invalid impossible OutOfMemory = Unit {0}
IsRendererRefusal Invalid impossible _ = ⊥

-- The configuration asks for settings that the format has and that are within their bounds.
abbrev pub IsAccepted : Format → RenderConfig → Type 0
IsAccepted format config =
    (settings : Settings) × AsksSettings format (render_options config) settings

-- The results of a renderer of a format: the output, or the error that an option is refused; or,
-- where none is, that the grid has no modules or is too large.
abbrev pub Renders : Format → Grid → RenderConfig → Result RenderOutput PluginError → Type 0
Renders format grid config (Ok output) = DrawsGrid format grid config output
Renders format grid config (Err error) =
    IsRendererRefusal (RefusesName format (render_options config))
    (IsAccepted format config × (IsDrawable grid → ⊥)) error

-- The results of `validate_config` of a renderer of a format.
abbrev pub Validates : Format → RenderConfig → Result (Unit {0}) PluginError → Type 0
Validates format config (Ok done) = IsAccepted format config
Validates format config (Err error) =
    IsRendererRefusal (RefusesName format (render_options config)) ⊥ error
