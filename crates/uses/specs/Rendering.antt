-- Rendering by the name of the renderer.
use Rattle.std.specs.Prelude.{◌≡◌, ◌≢◌, ℕ, List, codes, Result, IsErrAnd}
use Rattle.qrcode_core.specs.declared.plugin.config.RenderConfig.{RenderConfig}
use Rattle.qrcode_core.specs.declared.plugin.error.PluginError.{PluginError}
use Rattle.qrcode_core.specs.declared.plugin.output.RenderOutput.{RenderOutput}
use Rattle.qrcode_core.specs.Grids.{Grid}
use Rattle.qrcode_core.specs.Plugins.{IsRendererMissing}
use Rattle.qrcode_render.specs.declared.format.Format.TheVariants.{Svg, Pbm, Terminal}
use Rattle.qrcode_render.specs.Renderers.{Renders}

-- The result is that of the renderer of this name; for any other name it is the error for a
-- missing renderer.
pub record RendersByName (name : List ℕ) (grid : Grid) (config : RenderConfig)
    (answer : Result RenderOutput PluginError) : Type 0 where
  pub svg : name ≡ codes "svg" → Renders Svg grid config answer
  pub pbm : name ≡ codes "pbm" → Renders Pbm grid config answer
  pub terminal : name ≡ codes "terminal" → Renders Terminal grid config answer
  pub missing : name ≢ codes "svg" → name ≢ codes "pbm" → name ≢ codes "terminal" →
      IsErrAnd answer (IsRendererMissing name)
