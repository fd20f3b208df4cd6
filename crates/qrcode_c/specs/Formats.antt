-- The format and the settings of a picture, as a caller in C gives them.
use Rattle.std.specs.Prelude.{◌≡◌, ◌≢◌, ◌↔◌, ℕ, ◌*◌, ℤ, pos, negsuc, true, false, Option, Some, None, unwrap_or}
use Rattle.picture_settings.specs.declared.format.Format.{Format}
use Rattle.picture_settings.specs.declared.format.Format.TheVariants.{Terminal, Svg, Png, Pbm, Eps}
use Rattle.picture_settings.specs.declared.format.Format.TheVariants.{EscPos, Zpl, Pdf}
use Rattle.picture_settings.specs.Colors.{no_colors}
use Rattle.picture_settings.specs.declared.settings.Settings.{Settings}
use Rattle.qrcode_c.specs.declared.settings.PictureSettings.{PictureSettings}

-- The number of a format.
abbrev pub format_argument : Format → ℤ
format_argument Terminal = pos 0
format_argument Svg = pos 1
format_argument Png = pos 2
format_argument Pbm = pos 3
format_argument Eps = pos 4
format_argument EscPos = pos 5
format_argument Zpl = pos 6
format_argument Pdf = pos 7

-- The number is not that of a format.
abbrev pub IsNoFormat : ℤ → Type 0
IsNoFormat number = (format : Format) → number ≢ format_argument format

-- The number of a setting; one below 0 says nothing.
abbrev pub given : ℤ → Option ℕ
given (pos n) = Some n
given (negsuc n) = None

-- Ten times that: of hundredths of a millimetre the micrometres, and of the pixels in an inch those
-- in ten inches.
abbrev pub tenfold : ℤ → Option ℕ
tenfold (pos n) = Some (10 * n)
tenfold (negsuc n) = None

-- The position whose parts are given. A part that is not given beside the other is 0.
abbrev pub corner : (x y : Option ℕ) → Option (ℕ × ℕ)
corner None None = None
corner (Some x) y = Some (x, unwrap_or y 0)
corner None (Some y) = Some (0, y)

-- The numbers of the caller mean these settings, which have no title and no text below the picture,
-- and nothing that is asked of printers alone.
pub record MeansSettings (asked : PictureSettings) (settings : Settings) : Type 0 where
  pub scale_is : settings.scale ≡ given asked.scale
  pub quiet_is : settings.quiet ≡ given asked.quiet
  pub module_is : settings.module_um ≡ tenfold asked.module_mm
  pub dpi_is : settings.dpi_tenths ≡ tenfold asked.dpi
  pub inverted_is : (settings.inverted ≡ true) ↔ (asked.inverted ≢ pos 0)
  pub title_is : settings.title ≡ None
  pub caption_is : settings.caption ≡ None
  pub at_is : settings.at ≡ corner (given asked.at_x) (given asked.at_y)
  pub copies_is : settings.copies ≡ None
  pub compressed_is : settings.compressed ≡ false
  pub feed_is : settings.feed ≡ None
  pub cut_is : settings.cut ≡ false
  pub colors_are : settings.colors ≡ no_colors
  pub any_colors_is : settings.any_colors ≡ false
