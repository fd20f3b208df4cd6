-- The formats of pictures, and what each of them can be asked for.
use Rattle.std.specs.Prelude.{ℕ, Bool, true, false}
use Rattle.picture_settings.specs.declared.format.Format.{Format}
use Rattle.picture_settings.specs.declared.format.Format.TheVariants.{Terminal, Svg, Png, Eps}
use Rattle.picture_settings.specs.declared.format.Format.TheVariants.{Pbm, EscPos, Zpl, Pdf}
use Rattle.picture_settings.specs.declared.bounds.TheConstants.{IMAGE_SCALE, TEXT_SCALE}
use Rattle.picture_settings.specs.declared.settings.Setting.{Setting}
use Rattle.picture_settings.specs.declared.settings.Setting.TheVariants.{Scale, Quiet, ModuleMm}
use Rattle.picture_settings.specs.declared.settings.Setting.TheVariants.{Dpi, Inverted, Title, At}
use Rattle.picture_settings.specs.declared.settings.Setting.TheVariants.{Copies, Compressed, Feed}
use Rattle.picture_settings.specs.declared.settings.Setting.TheVariants.{Cut, Caption}

-- The default width of a module in pixels.
abbrev pub default_scale : Format → ℕ
default_scale Terminal = TEXT_SCALE
default_scale _ = IMAGE_SCALE

-- Pictures of the format are text.
abbrev pub is_text_format : Format → Bool
is_text_format Terminal = true
is_text_format Svg = true
is_text_format Eps = true
is_text_format _ = false

-- The light pixels can be filled, for a dark screen.
abbrev pub can_be_inverted : Format → Bool
can_be_inverted Terminal = true
can_be_inverted _ = false

-- A module has a size in millimetres.
abbrev pub has_millimetres : Format → Bool
has_millimetres Svg = true
has_millimetres Png = true
has_millimetres Eps = true
has_millimetres Pdf = true
has_millimetres _ = false

-- A pixel has a size, as a number of dots per inch.
abbrev pub has_dots : Format → Bool
has_dots Png = true
has_dots Zpl = true
has_dots _ = false

-- The picture has a title.
abbrev pub has_title : Format → Bool
has_title Svg = true
has_title Png = true
has_title Eps = true
has_title Pdf = true
has_title _ = false

-- The picture has a text below it.
abbrev pub has_caption : Format → Bool
has_caption Pbm = false
has_caption EscPos = false
has_caption _ = true

-- The picture has colours.
abbrev pub has_colors : Format → Bool
has_colors Svg = true
has_colors Png = true
has_colors Eps = true
has_colors Pdf = true
has_colors _ = false

-- The picture has a position on what is printed.
abbrev pub has_position : Format → Bool
has_position Zpl = true
has_position _ = false

-- A label of the format has a number of copies.
abbrev pub has_copies : Format → Bool
has_copies Zpl = true
has_copies _ = false

-- The data can be compressed.
abbrev pub can_be_compressed : Format → Bool
can_be_compressed Zpl = true
can_be_compressed _ = false

-- The paper can be moved after the picture.
abbrev pub has_feed : Format → Bool
has_feed EscPos = true
has_feed _ = false

-- The paper can be cut after the picture.
abbrev pub can_be_cut : Format → Bool
can_be_cut EscPos = true
can_be_cut _ = false

-- Pictures can follow each other in one output.
abbrev pub is_stream : Format → Bool
is_stream Terminal = true
is_stream Pbm = true
is_stream EscPos = true
is_stream Zpl = true
is_stream _ = false

-- A picture is a text, which a terminal can show.
abbrev pub can_be_shown : Format → Bool
can_be_shown Terminal = true
can_be_shown Svg = true
can_be_shown Eps = true
can_be_shown Zpl = true
can_be_shown _ = false

-- The format has a setting.
abbrev pub has_setting : Format → Setting → Bool
has_setting format Scale = true
has_setting format Quiet = true
has_setting format ModuleMm = has_millimetres format
has_setting format Dpi = has_dots format
has_setting format Inverted = can_be_inverted format
has_setting format Title = has_title format
has_setting format Caption = has_caption format
has_setting format At = has_position format
has_setting format Copies = has_copies format
has_setting format Compressed = can_be_compressed format
has_setting format Feed = has_feed format
has_setting format Cut = can_be_cut format
has_setting format _ = has_colors format
