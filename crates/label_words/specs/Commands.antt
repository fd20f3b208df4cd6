-- What the values of the options ask for: help, the version, or a label.
use Rattle.std.specs.Prelude.{ℕ, ◌*◌, ◌/◌, nat_le, ℤ, pos, nat_abs, Bool, true, false, ◌&&◌, ◌||◌, not}
use Rattle.std.specs.Prelude.{◌+◌, if◌then◌else◌, codes, Result, Ok, Err}
use Rattle.std.specs.Prelude.{List, Option, None, Some, option_and_then, unwrap_or, is_some}
use Rattle.qrcode_core.specs.declared.options.SymbolOptions.{SymbolOptions}
use Rattle.qrcode_core.specs.declared.types.EcLevel.{EcLevel, TheVariants.M, TheVariants.H}
use Rattle.picture_settings.specs.declared.bounds.TheConstants.{MICRO_QUIET, MIN_SCALE, MAX_SCALE}
use Rattle.picture_settings.specs.declared.bounds.TheConstants.{MIN_DPI_TENTHS, MAX_DPI_TENTHS}
use Rattle.picture_settings.specs.declared.bounds.TheConstants.{MIN_MODULE_UM, MAX_MODULE_UM}
use Rattle.picture_settings.specs.ColorWords.{word_color, ground_word}
use Rattle.picture_settings.specs.declared.colors.{Colors.Colors, Ground.Ground, Rgb.Rgb}
use Rattle.picture_settings.specs.declared.format.Format.{Format as FormatOf}
use Rattle.picture_settings.specs.declared.format.Format.TheVariants.{Terminal, Svg}
use Rattle.label_words.specs.declared.command.TheConstants.{MAX_FIRST}
use Rattle.label_words.specs.declared.settings.TheConstants.{MIN_DPMM, MAX_DPMM}
use Rattle.label_words.specs.declared.command.Content.{Content as ContentOf}
use Rattle.label_words.specs.declared.command.Content.TheVariants.{Auto, Bytes, BytesWithoutKanji, MicroBytes}
use Rattle.label_words.specs.declared.words.Name.{Name}
use Rattle.label_words.specs.declared.words.Name.TheVariants.{Text, Format, Content, Level, Strongest}
use Rattle.label_words.specs.declared.words.Name.TheVariants.{MinVersion, MaxVersion, Scale, Quiet}
use Rattle.label_words.specs.declared.words.Name.TheVariants.{ModuleMm, Dpi, Inverted, Title, At, Read}
use Rattle.label_words.specs.declared.words.Name.TheVariants.{Output, AllowEmpty, Help, Version, Lines}
use Rattle.label_words.specs.declared.words.Name.TheVariants.{First, KeepGoing, KeepNewline}
use Rattle.label_words.specs.declared.command.{Details.Details, Turn.Turn, Turn.TheVariants.Upright}
use Rattle.label_words.specs.declared.words.Name.TheVariants.{Copies, Compressed, Feed, Cut, Rotate}
use Rattle.label_words.specs.declared.words.Name.TheVariants.{Dark, Light, AnyColors, Domain, Hri, NoKanji, Dpmm, Upper}
use Rattle.label_words.specs.Choices.{level_named, content_named, turn_named, format_named, format_of_ending}
use Rattle.label_words.specs.Choices.{is_link, is_micro_content, is_drawn_in_dots, has_elements, is_terminal}
use Rattle.gs1_base.specs.Domains.{is_domain}
use Rattle.label_words.specs.Portions.{Portion, portion_asked, terminal_asked, details_asked}
use Rattle.picture_settings.specs.Formats.{has_caption, has_dots}
use Rattle.picture_settings.specs.Xml.{is_xml_text}
use Rattle.programs.specs.Quotes.{has_control}
use Rattle.picture_settings.specs.OptionWords.{word_number, word_position, word_tenths, word_thousandths}
use Rattle.label_words.specs.Words.{Values, value_of, file_of, is_given, Wrong, invalid}

infixl 20 ◌>>=◌
-- One thing after another, up to the first that is wrong.
abbrev pub ◌>>=◌ : {A B : Type 0} → Result A Wrong → (A → Result B Wrong) → Result B Wrong
(Ok a) >>= more = more a
(Err wrong) >>= more = Err wrong

-- ---- What each option asks for

-- What was found for an option.
abbrev pub found_or : {A : Type 0} → Option A → Name → Result A Wrong
found_or (Some thing) name = Ok thing
found_or None name = Err (invalid name)

-- What was found for an option that is given.
abbrev pub some_found : {A : Type 0} → Option A → Name → Result (Option A) Wrong
some_found (Some thing) name = Ok (Some thing)
some_found None name = Err (invalid name)

-- The thing that an option's value stands for, or the default.
abbrev pub asked_or : {A : Type 0} → (List ℕ → Option A) → A → Name → Values → Result A Wrong
asked_or meaning default name values =
    elim (value_of values name) [ Some word ↦ found_or (meaning word) name | None ↦ Ok default ]

-- The thing that an option's value stands for, if it is given.
abbrev pub asked : {A : Type 0} → (List ℕ → Option A) → Name → Values → Result (Option A) Wrong
asked meaning name values =
    elim (value_of values name) [ Some word ↦ some_found (meaning word) name | None ↦ Ok None ]

abbrev pub level_asked : Values → Result EcLevel Wrong
level_asked = asked_or level_named M Level

abbrev pub kind_asked : Values → Result ContentOf Wrong
kind_asked = asked_or content_named Auto Content

-- The content that has no segment in the Kanji mode: of the contents bytes have such a form.
abbrev pub without_kanji : ContentOf → Result ContentOf Wrong
without_kanji Bytes = Ok BytesWithoutKanji
without_kanji _ = Err (invalid NoKanji)

abbrev pub content_asked : Values → Result ContentOf Wrong
content_asked values =
    kind_asked values >>= (λ kind. if is_given values NoKanji then without_kanji kind else Ok kind)

-- The domain of a link, a host name, or with a port or a path, or that of the resolver of GS1.
-- Other contents have none.
abbrev pub domain_asked : ContentOf → Values → Result (List ℕ) Wrong
domain_asked content values =
    elim (value_of values Domain) [
      | Some word ↦ (if is_link content && is_domain word then Ok word else Err (invalid Domain))
      | None ↦ Ok (codes "id.gs1.org")
    ]

-- Whether the scheme and the host of a link are in capitals.
abbrev pub upper_asked : ContentOf → Values → Result Bool Wrong
upper_asked content values =
    if is_given values Upper && not (is_link content) then Err (invalid Upper) else Ok (is_given values Upper)

abbrev pub turn_asked : Values → Result Turn Wrong
turn_asked = asked_or turn_named Upright Rotate

-- The format: that of its name, or of the ending of the output's name; else text for a terminal if
-- the output is one, and SVG if not.
abbrev pub format_asked : Bool → Values → Result FormatOf Wrong
format_asked on_terminal values =
    elim (value_of values Format) [
      | Some word ↦ found_or (format_named word) Format
      | None ↦ elim (file_of values Output) [
        | Some name ↦ found_or (format_of_ending name) Output
        | None ↦ Ok (if on_terminal then Terminal else Svg)
      ]
    ]

-- The number of a Normal version.
abbrev pub version_in : List ℕ → Option ℤ
version_in word =
    elim (word_number word) [ Some n ↦ (if nat_le 1 n && nat_le n 40 then Some (pos n) else None) | None ↦ None ]

abbrev pub version_asked : Name → ℤ → Values → Result ℤ Wrong
version_asked name default = asked_or version_in default name

abbrev pub number_asked : Name → Values → Result (Option ℕ) Wrong
number_asked = asked word_number

-- The width of a module in micrometres.
abbrev pub module_asked : Values → Result (Option ℕ) Wrong
module_asked = asked word_thousandths ModuleMm

-- The dots of ten inches, of which each is 25.4 mm, by those of a millimetre.
abbrev pub dpmm_in : List ℕ → Option ℕ
dpmm_in word =
    elim (word_number word) [
      | Some n ↦ (if nat_le MIN_DPMM n && nat_le n MAX_DPMM then Some (254 * n) else None)
      | None ↦ None
    ]

-- The dots of ten inches. Those of an inch and those of a millimetre are not given together.
abbrev pub dpi_asked : Values → Result (Option ℕ) Wrong
dpi_asked values =
    elim (value_of values Dpmm) [
      | Some word ↦ (if is_given values Dpi then Err (invalid Dpmm) else some_found (dpmm_in word) Dpmm)
      | None ↦ asked word_tenths Dpi values
    ]

abbrev pub place_asked : Values → Result (Option (ℕ × ℕ)) Wrong
place_asked = asked word_position At

-- The color of the dark modules, and the ground.
abbrev pub dark_asked : Values → Result (Option Rgb) Wrong
dark_asked = asked word_color Dark

abbrev pub light_asked : Values → Result (Option Ground) Wrong
light_asked = asked ground_word Light

-- A title of one line: XML allows its characters, and none of them is a control character.
abbrev pub title_in : List ℕ → Option (List ℕ)
title_in word = if is_xml_text word && not (has_control word) then Some word else None

abbrev pub title_asked : Values → Result (Option (List ℕ)) Wrong
title_asked = asked title_in Title

-- ---- The picture, the symbol and the label

-- What is asked of a picture.
pub record Wishes : Type 0 where
  pub scale : Option ℕ
  pub quiet : Option ℕ
  pub module_um : Option ℕ
  pub dpi_tenths : Option ℕ
  pub inverted : Bool
  pub title : Option (List ℕ)
  pub caption : Option (List ℕ)
  pub at : Option (ℕ × ℕ)
  pub copies : Option ℕ
  pub compressed : Bool
  pub feed : Option ℕ
  pub cut : Bool
  pub colors : Colors
  pub any_colors : Bool

-- The wishes for a picture that the values of the options write, or the first that is wrong.
abbrev pub settings_asked : Values → Result Wishes Wrong
settings_asked values = do
  scale ← number_asked Scale values
  quiet ← number_asked Quiet values
  module_um ← module_asked values
  dpi_tenths ← dpi_asked values
  title ← title_asked values
  at ← place_asked values
  copies ← number_asked Copies values
  feed ← number_asked Feed values
  dark ← dark_asked values
  light ← light_asked values
  Ok (record {
    scale = scale;
    quiet = quiet;
    module_um = module_um;
    dpi_tenths = dpi_tenths;
    inverted = is_given values Inverted;
    title = title;
    caption = None;
    at = at;
    copies = copies;
    compressed = is_given values Compressed;
    feed = feed;
    cut = is_given values Cut;
    colors = record { dark = dark; light = light };
    any_colors = is_given values AnyColors;
  })

-- The least version is at most the greatest.
abbrev pub ranged : SymbolOptions → Result SymbolOptions Wrong
ranged options =
    if nat_le (nat_abs options.min_version) (nat_abs options.max_version) then Ok options else Err (invalid MaxVersion)

-- The quiet zone of a Micro symbol is narrower, if no width is given.
abbrev pub zoned : ContentOf → Wishes → Wishes
zoned content wishes =
    if is_micro_content content then record wishes { quiet = Some (unwrap_or wishes.quiet MICRO_QUIET) } else wishes

-- A number of dots that a module can have.
abbrev pub scale_of : ℕ → Result ℕ Wrong
scale_of dots = if nat_le MIN_SCALE dots && nat_le dots MAX_SCALE then Ok dots else Err (invalid ModuleMm)

-- The number of whole dots that is nearest to the width of a module, in micrometres, at a
-- resolution in dots of ten inches, of which each is 25.4 mm. A half is rounded up.
abbrev pub dots_asked : ℕ → ℕ → Result ℕ Wrong
dots_asked module_um dpi_tenths =
    if not (nat_le MIN_DPI_TENTHS dpi_tenths && nat_le dpi_tenths MAX_DPI_TENTHS) then Err (invalid Dpi)
    else (if not (nat_le MIN_MODULE_UM module_um && nat_le module_um MAX_MODULE_UM) then Err (invalid ModuleMm)
    else scale_of ((module_um * dpi_tenths + 127000) / 254000))

-- The scale that a size and a resolution give, where they are given for a format of dots.
abbrev pub with_dots : FormatOf → ℕ → ℕ → Wishes → Result Wishes Wrong
with_dots format module_um dpi_tenths wishes =
    if not (is_drawn_in_dots format) then Ok wishes
    else (if is_some wishes.scale then Err (invalid Scale)
    else (dots_asked module_um dpi_tenths >>= (λ dots. Ok (record wishes {
      scale = Some dots;
      module_um = None;
      dpi_tenths = if has_dots format then Some dpi_tenths else None;
    }))))

-- The wishes with the whole dots that a module of a size in millimetres has at a resolution.
-- Example: 0.5 mm has 5 dots at 300 dots an inch.
abbrev pub in_dots : FormatOf → Wishes → Result Wishes Wrong
in_dots format wishes =
    elim wishes.module_um [
      | Some module_um ↦ elim wishes.dpi_tenths [
        | Some dpi_tenths ↦ with_dots format module_um dpi_tenths wishes
        | None ↦ Ok wishes
      ]
      | None ↦ Ok wishes
    ]

-- The level, the versions, and whether the level is raised.
abbrev pub symbol_asked : Values → Result SymbolOptions Wrong
symbol_asked values = do
  level ← level_asked values
  least ← version_asked MinVersion (pos 1) values
  most ← version_asked MaxVersion (pos 40) values
  ranged (record { level = level; min_version = least; max_version = most; strongest = is_given values Strongest })

-- A Micro symbol has no level H (ISO/IEC 18004:2006, "Error correction").
abbrev pub is_h : EcLevel → Bool
is_h H = true
is_h _ = false

-- No level or option is given that a Micro symbol does not have.
abbrev pub micro_asked : ContentOf → EcLevel → Values → Result (Unit {0}) Wrong
micro_asked content level values =
    if not (is_micro_content content) then Ok tt
    else (if is_h level then Err (invalid Level)
    else (if is_given values Strongest then Err (invalid Strongest)
    else (if is_given values MinVersion then Err (invalid MinVersion)
    else (if is_given values MaxVersion then Err (invalid MaxVersion) else Ok tt))))

-- The number of the first line.
abbrev pub first_in : Values → List ℕ → Option ℕ
first_in values word =
    elim (word_number word) [
      | Some n ↦ (if nat_le n MAX_FIRST && is_given values Lines then Some n else None)
      | None ↦ None
    ]

abbrev pub first_asked : Values → Result ℕ Wrong
first_asked values = asked_or (first_in values) 1 First values

-- Whether a line that has no label is left out.
abbrev pub keeps_going_asked : Values → Result Bool Wrong
keeps_going_asked values =
    if is_given values KeepGoing && not (is_given values Lines) then Err (invalid KeepGoing)
    else Ok (is_given values KeepGoing)

-- Whether the elements are written below the symbol: those of GS1 elements or of a link, in a
-- format that has a text there.
abbrev pub hri_asked : ContentOf → FormatOf → Values → Result Bool Wrong
hri_asked content format values =
    if is_given values Hri && not (has_elements content && has_caption format) then Err (invalid Hri)
    else Ok (is_given values Hri)

-- Whether a text of a content has no byte order mark and no newline at its end. Bytes are drawn as
-- they are.
abbrev pub is_trimmed : ContentOf → Bool
is_trimmed Bytes = false
is_trimmed BytesWithoutKanji = false
is_trimmed MicroBytes = false
is_trimmed _ = true

-- A text that is read is trimmed, unless its newline is to be kept.
abbrev pub trims_asked : ContentOf → Values → Bool
trims_asked content values =
    is_trimmed content && (not (is_given values Text) && not (is_given values KeepNewline))

-- A text is drawn on a terminal in colors of its own, unless it is to be inverted, or the words
-- name the output.
abbrev pub colored_asked : Bool → FormatOf → Values → Bool
colored_asked on_terminal format values =
    on_terminal && (is_terminal format && (not (is_given values Output) && not (is_given values Inverted)))

-- A label: what its symbol says, the domain of a link and whether its host is in capitals, how the
-- symbol is chosen, its picture, whether an input with no bytes is drawn, whether a text is trimmed,
-- what of the input the label shows, the number of the first line, whether a line that has no label
-- is left out, how errors call the input and the output, whether a text for a terminal has colors of
-- its own, by how much the symbol is turned, whether its details are written, the dots of ten
-- inches, the width of a module in micrometres that is asked for, and whether the elements are
-- written below the symbol.
pub record Label : Type 0 where
  pub content : ContentOf
  pub domain : List ℕ
  pub upper : Bool
  pub symbol : SymbolOptions
  pub format : FormatOf
  pub wishes : Wishes
  pub allow_empty : Bool
  pub trims : Bool
  pub portion : Portion
  pub first : ℕ
  pub keeps_going : Bool
  pub source : List ℕ
  pub target : List ℕ
  pub colored : Bool
  pub turn : Turn
  pub details : Details
  pub dpi_tenths : Option ℕ
  pub asked_um : Option ℕ
  pub hri : Bool

abbrev pub label_asked : Bool → Values → Result Label Wrong
label_asked on_terminal values = do
  content ← content_asked values
  domain ← domain_asked content values
  upper ← upper_asked content values
  symbol ← symbol_asked values
  micro ← micro_asked content symbol.level values
  format ← format_asked on_terminal values
  text ← terminal_asked on_terminal format values
  portion ← portion_asked content format values
  first ← first_asked values
  keeps_going ← keeps_going_asked values
  turn ← turn_asked values
  details ← details_asked values
  hri ← hri_asked content format values
  given ← settings_asked values
  wishes ← in_dots format given
  Ok (record {
    content = content;
    domain = domain;
    upper = upper;
    symbol = symbol;
    format = format;
    wishes = zoned content wishes;
    allow_empty = is_given values AllowEmpty;
    trims = trims_asked content values;
    portion = portion;
    first = first;
    keeps_going = keeps_going;
    source = unwrap_or (file_of values Read) (codes "standard input");
    target = unwrap_or (file_of values Output) (codes "standard output");
    colored = colored_asked on_terminal format values;
    turn = turn;
    details = details;
    dpi_tenths = given.dpi_tenths;
    asked_um = given.module_um;
    hri = hri;
  })

-- What the words ask for.
pub data Command : Type 0 where
  asks_help : Command
  asks_version : Command
  asks_label : Label → Command

-- A text and a file to read are not given together.
abbrev pub command_asked : Bool → Values → Result Command Wrong
command_asked on_terminal values =
    if is_given values Help then Ok asks_help
    else (if is_given values Version then Ok asks_version
    else (if is_given values Text && is_given values Read then Err (invalid Read)
    else (label_asked on_terminal values >>= (λ asked. Ok (asks_label asked)))))
