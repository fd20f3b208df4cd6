-- The picture of a grid in a format, as settings ask for it.
use Rattle.std.specs.Prelude.{◌≡◌, ℕ, List, None}
use Rattle.qrcode_core.specs.Grids.{Grid}
use Rattle.picture_settings.specs.declared.draw_options.DrawOptions.{DrawOptions}
use Rattle.picture_settings.specs.declared.format.Format.{Format}
use Rattle.picture_settings.specs.declared.settings.Settings.{Settings}
use Rattle.picture_settings.specs.DrawOptions.{IsMadeOf}
use Rattle.picture_settings.specs.Settings.{invalid_setting}
use Rattle.qrcode_render.specs.Drawings.{IsPictureOf}

-- The bytes show the grid as the settings ask: all of these are valid, and the bytes are those of
-- the options that are made of them.
pub record ShowsAsAsked (format : Format) (settings : Settings) (grid : Grid) (bytes : List ℕ)
    : Type 0 where
  pub options : DrawOptions
  pub valid : invalid_setting format settings ≡ None
  pub made : IsMadeOf format settings options
  pub shows : IsPictureOf options grid bytes
