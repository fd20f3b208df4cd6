-- The options of the command line that give the settings of a picture.
use Rattle.picture_settings.specs.declared.settings.Setting.{Setting}
use Rattle.picture_settings.specs.declared.settings.Setting.TheVariants.{Scale as ScaleOf}
use Rattle.picture_settings.specs.declared.settings.Setting.TheVariants.{Quiet as QuietOf}
use Rattle.picture_settings.specs.declared.settings.Setting.TheVariants.{ModuleMm as ModuleOf}
use Rattle.picture_settings.specs.declared.settings.Setting.TheVariants.{Dpi as DpiOf}
use Rattle.picture_settings.specs.declared.settings.Setting.TheVariants.{Inverted as InvertedOf}
use Rattle.picture_settings.specs.declared.settings.Setting.TheVariants.{Title as TitleOf, At as AtOf}
use Rattle.picture_settings.specs.declared.settings.Setting.TheVariants.{Copies as CopiesOf}
use Rattle.picture_settings.specs.declared.settings.Setting.TheVariants.{Compressed as CompressedOf}
use Rattle.picture_settings.specs.declared.settings.Setting.TheVariants.{Feed as FeedOf, Cut as CutOf}
use Rattle.picture_settings.specs.declared.settings.Setting.TheVariants.{Dark as DarkOf}
use Rattle.picture_settings.specs.declared.settings.Setting.TheVariants.{Light as LightOf}
use Rattle.picture_settings.specs.declared.settings.Setting.TheVariants.{AnyColors as AnyColorsOf}
use Rattle.picture_settings.specs.declared.settings.Setting.TheVariants.{Caption as CaptionOf}
use Rattle.std.specs.Prelude.{if◌then◌else◌}
use Rattle.picture_settings.specs.declared.format.Format.{Format}
use Rattle.picture_settings.specs.Formats.{has_title}
use Rattle.label_words.specs.Words.{Values, Wrong, invalid, is_given, long_title}
use Rattle.label_words.specs.declared.words.Name.{Name}
use Rattle.label_words.specs.declared.words.Name.TheVariants.{Scale, Quiet, ModuleMm, Dpi, Inverted}
use Rattle.label_words.specs.declared.words.Name.TheVariants.{Title, At, Copies, Compressed, Feed, Cut}
use Rattle.label_words.specs.declared.words.Name.TheVariants.{Dark, Light, AnyColors, Hri, Dpmm}

-- The option that gives a setting.
abbrev pub setting_option : Setting → Name
setting_option ScaleOf = Scale
setting_option QuietOf = Quiet
setting_option ModuleOf = ModuleMm
setting_option DpiOf = Dpi
setting_option InvertedOf = Inverted
setting_option TitleOf = Title
setting_option CaptionOf = Hri
setting_option AtOf = At
setting_option CopiesOf = Copies
setting_option CompressedOf = Compressed
setting_option FeedOf = Feed
setting_option CutOf = Cut
setting_option DarkOf = Dark
setting_option LightOf = Light
setting_option AnyColorsOf = AnyColors

-- What is wrong with the words where a setting is not valid in a format: an option, or the length of
-- a title, of which all else was tested before. A resolution stands in one of two options.
abbrev pub setting_wrong : Values → Format → Setting → Wrong
setting_wrong values format TitleOf = if has_title format then long_title else invalid Title
setting_wrong values format DpiOf = invalid (if is_given values Dpmm then Dpmm else Dpi)
setting_wrong values format setting = invalid (setting_option setting)
