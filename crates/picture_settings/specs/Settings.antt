-- The settings of a picture that a caller gives, and which of them are valid in a format.
use Rattle.std.specs.Prelude.{ℕ, Bool, true, false, ◌&&◌, ◌||◌, ◌==◌, not, nat_le}
use Rattle.std.specs.Prelude.{is_none, is_some}
use Rattle.std.specs.Prelude.{if◌then◌else◌}
use Rattle.std.specs.Prelude.{List, [], ◌∷◌, codes, length, Option, None, Some}
use Rattle.std.specs.List.{list_all}
use Rattle.std.specs.Option.{option_copied}
use Rattle.picture_settings.specs.declared.bounds.TheConstants.{MIN_SCALE, MAX_SCALE, MAX_QUIET}
use Rattle.picture_settings.specs.declared.bounds.TheConstants.{MIN_MODULE_UM, MAX_MODULE_UM}
use Rattle.picture_settings.specs.declared.bounds.TheConstants.{MIN_DPI_TENTHS, MAX_DPI_TENTHS, MAX_AT}
use Rattle.picture_settings.specs.declared.bounds.TheConstants.{MIN_COPIES, MAX_COPIES, MAX_FEED}
use Rattle.picture_settings.specs.declared.bounds.TheConstants.{MAX_PDF_TITLE, MAX_PNG_TITLE}
use Rattle.picture_settings.specs.declared.bounds.TheConstants.{MAX_PS_TITLE}
use Rattle.picture_settings.specs.declared.format.Format.{Format}
use Rattle.picture_settings.specs.declared.format.Format.TheVariants.{Png, Eps, Pdf}
use Rattle.picture_settings.specs.declared.settings.Setting.{Setting}
use Rattle.picture_settings.specs.declared.settings.Setting.TheVariants.{Scale, Quiet, ModuleMm}
use Rattle.picture_settings.specs.declared.settings.Setting.TheVariants.{Dpi, Inverted, Title, At}
use Rattle.picture_settings.specs.declared.settings.Setting.TheVariants.{Copies, Compressed, Feed}
use Rattle.picture_settings.specs.declared.settings.Setting.TheVariants.{Cut, Dark, Light}
use Rattle.picture_settings.specs.declared.settings.Setting.TheVariants.{AnyColors, Caption}
use Rattle.picture_settings.specs.declared.settings.Settings.{Settings}
use Rattle.picture_settings.specs.Colors.{are_readable}
use Rattle.picture_settings.specs.Formats.{has_colors}
use Rattle.picture_settings.specs.Formats.{can_be_inverted, has_dots, has_millimetres, has_position}
use Rattle.picture_settings.specs.Formats.{has_title, has_copies, has_feed, can_be_compressed}
use Rattle.picture_settings.specs.Formats.{can_be_cut, has_caption}
use Rattle.picture_settings.specs.PostScript.{string_text}
use Rattle.picture_settings.specs.Xml.{is_xml_text}

-- A number that may be given: it is within its bounds, and the format has it.
abbrev pub allows : (has : Bool) → (least most : ℕ) → Option ℕ → Bool
allows has least most None = true
allows has least most (Some n) = has && (nat_le least n && nat_le n most)

-- A title that may be given: XML allows its characters, and the format has one.
abbrev pub allows_title : (has : Bool) → Option (List ℕ) → Bool
allows_title has None = true
allows_title has (Some title) = has && is_xml_text title

-- A title that the format has room for: in a chunk of PNG that readers take, in a line of the
-- comments of EPS, and in a text string of PDF.
abbrev pub has_room : Format → Option (List ℕ) → Bool
has_room Png (Some title) = nat_le (length title) MAX_PNG_TITLE
has_room Eps (Some title) = nat_le (length (string_text title)) MAX_PS_TITLE
has_room Pdf (Some title) = nat_le (length title) MAX_PDF_TITLE
has_room _ _ = true

-- A character of ASCII that is printed, a space among them.
abbrev pub is_printed : ℕ → Bool
is_printed c = nat_le 32 c && nat_le c 126

abbrev pub is_newline : ℕ → Bool
is_newline c = c == 10

-- A character of a text in lines, which newlines end.
abbrev pub is_in_lines : ℕ → Bool
is_in_lines c = is_printed c || is_newline c

-- A text in lines, of which some character is printed.
abbrev pub is_caption : List ℕ → Bool
is_caption text = not (list_all is_newline text) && list_all is_in_lines text

-- A text below a picture that may be given: it is one, and the format has one.
abbrev pub allows_caption : (has : Bool) → Option (List ℕ) → Bool
allows_caption has None = true
allows_caption has (Some text) = has && is_caption text

-- A position that may be given: it is within its bounds, and the format has one.
abbrev pub allows_position : (has : Bool) → Option (ℕ × ℕ) → Bool
allows_position has None = true
allows_position has (Some at) = has && (nat_le at.0 MAX_AT && nat_le at.1 MAX_AT)

-- The name of a setting.
abbrev pub setting_word : Setting → List ℕ
setting_word Scale = codes "scale"
setting_word Quiet = codes "quiet"
setting_word ModuleMm = codes "module_mm"
setting_word Dpi = codes "dpi"
setting_word Inverted = codes "inverted"
setting_word Title = codes "title"
setting_word Caption = codes "caption"
setting_word At = codes "at"
setting_word Copies = codes "copies"
setting_word Compressed = codes "compressed"
setting_word Feed = codes "feed"
setting_word Cut = codes "cut"
setting_word Dark = codes "dark"
setting_word Light = codes "light"
setting_word AnyColors = codes "any_colors"

-- Whether each setting for printers is valid in a format.
abbrev pub printer_tests : Format → Settings → List (Setting × Bool)
printer_tests format s =
    (Copies, allows (has_copies format) MIN_COPIES MAX_COPIES s.copies)
    ∷ (Compressed, not s.compressed || can_be_compressed format)
    ∷ (Feed, allows (has_feed format) 0 MAX_FEED s.feed)
    ∷ (Cut, not s.cut || can_be_cut format)
    ∷ []

-- Whether each setting is valid in a format. A resolution in dots per inch is not given beside a
-- size in millimetres.
abbrev pub setting_tests : Format → Settings → List (Setting × Bool)
setting_tests format s =
    (Scale, allows true MIN_SCALE MAX_SCALE s.scale)
    ∷ (Quiet, allows true 0 MAX_QUIET s.quiet)
    ∷ (ModuleMm, allows (has_millimetres format) MIN_MODULE_UM MAX_MODULE_UM s.module_um)
    ∷ (Dpi, allows (has_dots format && is_none s.module_um) MIN_DPI_TENTHS MAX_DPI_TENTHS s.dpi_tenths)
    ∷ (Inverted, not s.inverted || can_be_inverted format)
    ∷ (
      Title,
      allows_title (has_title format) (option_copied s.title)
          && has_room format (option_copied s.title),
    )
    ∷ (Caption, allows_caption (has_caption format) (option_copied s.caption))
    ∷ (At, allows_position (has_position format) s.at)
    ∷ printer_tests format s

-- Colours that may be given: the format has colours, and a reader can distinguish these, or any are
-- allowed. Where they are too near, it is the ground that is wrong, if one is given.
abbrev pub allows_colors : Format → Settings → Bool
allows_colors format s = has_colors format && (s.any_colors || are_readable s.colors)

-- Whether each setting for colours is valid in a format.
abbrev pub color_tests : Format → Settings → List (Setting × Bool)
color_tests format s = (
  Dark,
  is_none s.colors.dark || (if is_some s.colors.light then has_colors format else
      allows_colors format s),
)
    ∷ (Light, is_none s.colors.light || allows_colors format s)
    ∷ (AnyColors, not s.any_colors || has_colors format)
    ∷ []

-- The first setting whose test fails.
abbrev pub first_failed : List (Setting × Bool) → Option Setting
first_failed [] = None
first_failed ((setting, true) ∷ more) = first_failed more
first_failed ((setting, false) ∷ more) = Some setting

-- The first of two, if there is one.
abbrev pub first_of : Option Setting → Option Setting → Option Setting
first_of (Some setting) other = Some setting
first_of None other = other

-- The first setting that is not valid in a format.
abbrev pub invalid_setting : Format → Settings → Option Setting
invalid_setting format s =
    first_of (first_failed (setting_tests format s)) (first_failed (color_tests format s))
