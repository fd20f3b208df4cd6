-- The settings that a renderer's configuration asks for, and which of its options are wrong.
use Rattle.std.specs.Prelude.{◌≡◌, ◌⊎◌, ℕ, Bool, true, false, ◌&&◌, not, is_some}
use Rattle.std.specs.Prelude.{List, [], ◌∷◌, Option, None, Some, option_and_then, unwrap_or}
use Rattle.std.specs.List.{find}
use Rattle.std.specs.Option.{option_copied}
use Rattle.qrcode_core.specs.Plugins.{TextMap, at_key}
use Rattle.picture_settings.specs.declared.draw_options.DrawOptions.{DrawOptions}
use Rattle.picture_settings.specs.declared.format.Format.{Format}
use Rattle.picture_settings.specs.declared.settings.Setting.{Setting}
use Rattle.picture_settings.specs.declared.settings.Setting.TheVariants.{Scale, Quiet, ModuleMm}
use Rattle.picture_settings.specs.declared.settings.Setting.TheVariants.{Dpi, Inverted, Title, At}
use Rattle.picture_settings.specs.declared.settings.Setting.TheVariants.{Copies, Compressed, Feed}
use Rattle.picture_settings.specs.declared.settings.Setting.TheVariants.{Cut, Dark, Light}
use Rattle.picture_settings.specs.declared.settings.Setting.TheVariants.{AnyColors, Caption}
use Rattle.picture_settings.specs.declared.settings.Settings.{Settings}
use Rattle.picture_settings.specs.ColorWords.{word_color, ground_word}
use Rattle.picture_settings.specs.Formats.{has_setting}
use Rattle.picture_settings.specs.DrawOptions.{IsMadeOf}
use Rattle.picture_settings.specs.OptionWords.{word_flag, word_number, word_position}
use Rattle.picture_settings.specs.OptionWords.{word_tenths, word_thousandths}
use Rattle.picture_settings.specs.Settings.{invalid_setting, setting_word}

-- All settings, in the order of `Settings`.
abbrev pub all_settings : List Setting
all_settings =
    Scale ∷ Quiet ∷ ModuleMm ∷ Dpi ∷ Inverted ∷ Title ∷ Caption ∷ At ∷ Copies ∷ Compressed ∷ Feed
    ∷ Cut ∷ Dark ∷ Light ∷ AnyColors ∷ []

-- The text of the option that has the name of a setting, if it is there.
abbrev pub text_at : TextMap (List ℕ) → Setting → Option (List ℕ)
text_at options setting = at_key options (setting_word setting)

-- A text is a value of a setting, though perhaps out of its bounds.
abbrev pub is_value : Setting → List ℕ → Bool
is_value ModuleMm text = is_some (word_thousandths text)
is_value Dpi text = is_some (word_tenths text)
is_value Inverted text = is_some (word_flag text)
is_value Title text = true
is_value Caption text = true
is_value At text = is_some (word_position text)
is_value Compressed text = is_some (word_flag text)
is_value Cut text = is_some (word_flag text)
is_value Dark text = is_some (word_color text)
is_value Light text = is_some (ground_word text)
is_value AnyColors text = is_some (word_flag text)
is_value _ text = is_some (word_number text)

-- The option is there, though the format does not have it, or its text is no value of it.
abbrev pub is_wrong : Format → TextMap (List ℕ) → Setting → Bool
is_wrong format options setting =
    elim (text_at options setting) [
      | Some text ↦ not (has_setting format setting && is_value setting text)
      | None ↦ false
    ]

-- The first option that is wrong.
abbrev pub wrong_option : Format → TextMap (List ℕ) → Option Setting
wrong_option format options = find (is_wrong format options) all_settings

-- The number of an option.
abbrev pub number_at : TextMap (List ℕ) → Setting → Option ℕ
number_at options setting = option_and_then word_number (text_at options setting)

-- The value of a flag, which is false if the option is not there.
abbrev pub flag_at : TextMap (List ℕ) → Setting → Bool
flag_at options setting = unwrap_or (option_and_then word_flag (text_at options setting)) false

-- The settings have the values of the options, and none where an option is not there.
pub record IsReadFrom (options : TextMap (List ℕ)) (s : Settings) : Type 0 where
  pub scale_is : s.scale ≡ number_at options Scale
  pub quiet_is : s.quiet ≡ number_at options Quiet
  pub module_is : s.module_um ≡ option_and_then word_thousandths (text_at options ModuleMm)
  pub dpi_is : s.dpi_tenths ≡ option_and_then word_tenths (text_at options Dpi)
  pub inverted_is : s.inverted ≡ flag_at options Inverted
  pub title_is : option_copied s.title ≡ text_at options Title
  pub caption_is : option_copied s.caption ≡ text_at options Caption
  pub at_is : s.at ≡ option_and_then word_position (text_at options At)
  pub copies_is : s.copies ≡ number_at options Copies
  pub compressed_is : s.compressed ≡ flag_at options Compressed
  pub feed_is : s.feed ≡ number_at options Feed
  pub cut_is : s.cut ≡ flag_at options Cut
  pub dark_is : s.colors.dark ≡ option_and_then word_color (text_at options Dark)
  pub light_is : s.colors.light ≡ option_and_then ground_word (text_at options Light)
  pub any_colors_is : s.any_colors ≡ flag_at options AnyColors

-- The options ask for these settings, which the format has and which are within their bounds.
pub record AsksSettings (format : Format) (options : TextMap (List ℕ)) (s : Settings) : Type 0 where
  pub right : wrong_option format options ≡ None
  pub read : IsReadFrom options s
  pub valid : invalid_setting format s ≡ None

-- The options of a picture are those that a configuration asks for.
pub record IsMadeFrom (format : Format) (options : TextMap (List ℕ)) (o : DrawOptions)
    : Type 0 where
  pub settings : Settings
  pub asked : AsksSettings format options settings
  pub made : IsMadeOf format settings o

-- An option is refused: it is the first that is wrong; or none is, and it is the first that is not
-- valid in the format.
abbrev pub Refuses : Format → TextMap (List ℕ) → Setting → Type 0
Refuses format options setting =
    (wrong_option format options ≡ Some setting)
    ⊎ ((wrong_option format options ≡ None) × (s : Settings) × IsReadFrom options s
    × (invalid_setting format s ≡ Some setting))

-- An option of this name is refused.
abbrev pub RefusesName : Format → TextMap (List ℕ) → List ℕ → Type 0
RefusesName format options name =
    (setting : Setting) × (name ≡ setting_word setting) × Refuses format options setting
