-- The options that are made of settings.
use Rattle.std.specs.Prelude.{◌≡◌, unwrap_or}
use Rattle.std.specs.Option.{option_copied}
use Rattle.picture_settings.specs.declared.bounds.TheConstants.{QUIET}
use Rattle.picture_settings.specs.declared.draw_options.DrawOptions.{DrawOptions}
use Rattle.picture_settings.specs.declared.format.Format.{Format}
use Rattle.picture_settings.specs.declared.settings.Settings.{Settings}
use Rattle.picture_settings.specs.Formats.{default_scale}

-- The options of a format have what the settings give, and defaults for the rest.
pub record IsMadeOf (format : Format) (s : Settings) (options : DrawOptions) : Type 0 where
  pub format_is : options.format ≡ format
  pub scale_is : options.scale ≡ unwrap_or s.scale (default_scale format)
  pub quiet_is : options.quiet ≡ unwrap_or s.quiet QUIET
  pub module_is : options.module_um ≡ s.module_um
  pub dpi_is : options.dpi_tenths ≡ s.dpi_tenths
  pub inverted_is : options.inverted ≡ s.inverted
  pub title_is : option_copied options.title ≡ option_copied s.title
  pub caption_is : option_copied options.caption ≡ option_copied s.caption
  pub at_is : options.at ≡ unwrap_or s.at (0, 0)
  pub copies_is : options.copies ≡ s.copies
  pub compressed_is : options.compressed ≡ s.compressed
  pub feed_is : options.feed ≡ s.feed
  pub cut_is : options.cut ≡ s.cut
  pub colors_are : options.colors ≡ s.colors
