-- The words of levels, contents, formats and turns, and what is so of contents and formats.
use Rattle.std.specs.Prelude.{ℕ, ◌-◌, Bool, true, false, codes, List, [], ◌∷◌, length, drop, map, Option, None, Some}
use Rattle.std.specs.Char.{to_ascii_lowercase}
use Rattle.std.specs.Str.{bytes_eq}
use Rattle.qrcode_core.specs.declared.types.EcLevel.{EcLevel}
use Rattle.qrcode_core.specs.declared.types.EcLevel.TheVariants.{L, M, Q, H}
use Rattle.picture_settings.specs.declared.format.Format.{Format as FormatOf}
use Rattle.picture_settings.specs.declared.format.Format.TheVariants.{Terminal, Svg, Png, Pbm, Eps, EscPos, Zpl, Pdf}
use Rattle.label_words.specs.Words.{value_among}
use Rattle.label_words.specs.declared.command.Content.{Content as ContentOf}
use Rattle.label_words.specs.declared.command.Content.TheVariants.{Auto, Text as TextOf, Bytes, Gs1}
use Rattle.label_words.specs.declared.command.Content.TheVariants.{UncheckedGs1, Link, Micro, MicroBytes}
use Rattle.label_words.specs.declared.command.Turn.{Turn}
use Rattle.label_words.specs.declared.command.Turn.TheVariants.{Upright, Right, Over, Left}

-- ---- Words

-- The level of a letter, in either case.
abbrev pub level_named : List ℕ → Option EcLevel
level_named =
    value_among ((codes "L", L) ∷ (codes "l", L) ∷ (codes "M", M) ∷ (codes "m", M) ∷ (codes "Q", Q) ∷ (codes "q", Q)
    ∷ (codes "H", H) ∷ (codes "h", H) ∷ [])

-- The content of a word.
abbrev pub content_named : List ℕ → Option ContentOf
content_named =
    value_among ((codes "auto", Auto) ∷ (codes "text", TextOf) ∷ (codes "bytes", Bytes) ∷ (codes "gs1", Gs1)
    ∷ (codes "gs1-unchecked", UncheckedGs1) ∷ (codes "link", Link) ∷ (codes "micro", Micro)
    ∷ (codes "micro-bytes", MicroBytes) ∷ [])

-- The degrees by which a symbol is turned, clockwise.
abbrev pub turn_named : List ℕ → Option Turn
turn_named =
    value_among ((codes "0", Upright) ∷ (codes "90", Right) ∷ (codes "180", Over) ∷ (codes "270", Left) ∷ [])

-- The format of a word.
abbrev pub format_named : List ℕ → Option FormatOf
format_named =
    value_among ((codes "terminal", Terminal) ∷ (codes "svg", Svg) ∷ (codes "png", Png) ∷ (codes "pbm", Pbm)
    ∷ (codes "eps", Eps) ∷ (codes "escpos", EscPos) ∷ (codes "zpl", Zpl)
    ∷ (codes "pdf", Pdf) ∷ [])

-- Whether a name has this ending, in capital or small letters.
unfoldable pub has_ending : List ℕ → List ℕ → Bool
has_ending name ending =
    bytes_eq (map to_ascii_lowercase (drop (length name - length ending) name)) (map to_ascii_lowercase ending)

-- What a table has for the ending of a name.
abbrev pub by_ending : {A : Type 0} → List (List ℕ × A) → List ℕ → Option A
by_ending [] name = None
by_ending (entry ∷ entries) name =
    elim (has_ending name entry.0) [ true ↦ Some entry.1 | false ↦ by_ending entries name ]

-- The format of a file by the ending of its name, in capital or small letters.
abbrev pub format_of_ending : List ℕ → Option FormatOf
format_of_ending =
    by_ending ((codes ".txt", Terminal) ∷ (codes ".svg", Svg) ∷ (codes ".png", Png) ∷ (codes ".pbm", Pbm)
    ∷ (codes ".eps", Eps) ∷ (codes ".escpos", EscPos) ∷ (codes ".zpl", Zpl)
    ∷ (codes ".pdf", Pdf) ∷ [])

-- ---- Contents and formats

-- Whether the symbol is a Micro QR symbol.
abbrev pub is_micro_content : ContentOf → Bool
is_micro_content Micro = true
is_micro_content MicroBytes = true
is_micro_content _ = false

-- Whether the symbol is that of a link.
abbrev pub is_link : ContentOf → Bool
is_link Link = true
is_link _ = false

-- Whether it is of GS1 elements: them, or the link of them.
abbrev pub has_elements : ContentOf → Bool
has_elements Gs1 = true
has_elements UncheckedGs1 = true
has_elements Link = true
has_elements _ = false

-- GS1 elements, which the table of identifiers checks, or does not.
abbrev pub gs1_content : (checks : Bool) → ContentOf
gs1_content true = Gs1
gs1_content false = UncheckedGs1

-- Whether a printer or a screen draws a format in dots.
abbrev pub is_drawn_in_dots : FormatOf → Bool
is_drawn_in_dots Png = true
is_drawn_in_dots EscPos = true
is_drawn_in_dots Zpl = true
is_drawn_in_dots _ = false

-- Whether pictures of a format are pages.
abbrev pub is_pdf : FormatOf → Bool
is_pdf Pdf = true
is_pdf _ = false

-- Whether a message of a content can be spread over several symbols.
abbrev pub can_be_split : ContentOf → Bool
can_be_split Auto = true
can_be_split TextOf = true
can_be_split Bytes = true
can_be_split _ = false

abbrev pub is_terminal : FormatOf → Bool
is_terminal Terminal = true
is_terminal _ = false
