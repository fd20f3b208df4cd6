-- What a program writes about words that are wrong.
use Rattle.std.specs.Prelude.{ℕ, List, [], ◌∷◌, ◌++◌, codes, flat_map, Option, None, Some, true, false}
use Rattle.programs.specs.Quotes.{shown_word, word_line}
use Rattle.label_words.specs.declared.words.Name.{Name}
use Rattle.label_words.specs.declared.words.Name.TheVariants.{Text, Format, Content, Level, Strongest}
use Rattle.label_words.specs.declared.words.Name.TheVariants.{MinVersion, MaxVersion, Scale, Quiet}
use Rattle.label_words.specs.declared.words.Name.TheVariants.{ModuleMm, Dpi, Inverted, Title, At, Read}
use Rattle.label_words.specs.declared.words.Name.TheVariants.{Output, AllowEmpty, Help, Version, Lines}
use Rattle.label_words.specs.declared.words.Name.TheVariants.{First, KeepGoing, KeepNewline}
use Rattle.label_words.specs.declared.words.Name.TheVariants.{Copies, Compressed, Feed, Cut, Split, Rotate}
use Rattle.label_words.specs.declared.words.Name.TheVariants.{Verbose, Info, Dark, Light, AnyColors, Domain}
use Rattle.label_words.specs.declared.words.Name.TheVariants.{Hri, NoKanji, Dpmm, Upper}
use Rattle.label_words.specs.Words.{Wrong, unknown, no_value, second_text, invalid}
use Rattle.label_words.specs.Words.{long_title, needs_stream, needs_file}

-- The word of an option of a picture.
abbrev pub picture_word : Name → List ℕ
picture_word Scale = codes "--scale"
picture_word Quiet = codes "--quiet"
picture_word ModuleMm = codes "--module-mm"
picture_word Dpi = codes "--dpi"
picture_word Dpmm = codes "--dpmm"
picture_word Inverted = codes "--inverted"
picture_word Title = codes "--title"
picture_word At = codes "--at"
picture_word Copies = codes "--copies"
picture_word Compressed = codes "--compressed"
picture_word Feed = codes "--feed"
picture_word Cut = codes "--cut"
picture_word Rotate = codes "--rotate"
picture_word Dark = codes "--dark"
picture_word Light = codes "--light"
picture_word AnyColors = codes "--any-colors"
picture_word Hri = codes "--hri"
picture_word _ = []

-- The word of an option.
abbrev pub option_word : Name → List ℕ
option_word Text = codes "--"
option_word Format = codes "--format"
option_word Content = codes "--content"
option_word Level = codes "--level"
option_word Strongest = codes "--strongest"
option_word MinVersion = codes "--min-version"
option_word MaxVersion = codes "--max-version"
option_word Read = codes "--read"
option_word Output = codes "--output"
option_word AllowEmpty = codes "--allow-empty"
option_word Help = codes "--help"
option_word Version = codes "--version"
option_word Lines = codes "--lines"
option_word First = codes "--first"
option_word KeepGoing = codes "--keep-going"
option_word KeepNewline = codes "--keep-newline"
option_word Split = codes "--split"
option_word Verbose = codes "--verbose"
option_word Info = codes "--info"
option_word Domain = codes "--domain"
option_word NoKanji = codes "--no-kanji"
option_word Upper = codes "--upper"
option_word name = picture_word name

-- What the size of a module can be.
abbrev pub module_text : List ℕ
module_text =
    codes "0.05 to 10, at most three decimals, for svg, png, eps and pdf; "
    ++ codes "with --dpi or --dpmm for png, zpl and escpos, 1 to 64 whole dots"

-- What the number of dots of an inch and of a millimetre can be.
abbrev pub dpi_text : List ℕ
dpi_text = codes "50 to 2400, at most one decimal, for png and zpl; with --module-mm for escpos, too"

abbrev pub dpmm_text : List ℕ
dpmm_text = codes "2 to 94, not with --dpi, for png and zpl; with --module-mm for escpos, too"

-- What the name of the output can be.
abbrev pub output_text : List ℕ
output_text =
    codes "with -f any name, else one that ends with .txt, .svg, .png, .pbm, .eps, .pdf, .escpos or .zpl; "
    ++ codes "for --lines and --split alone with a number, %d or %0Nd, N from 1 to 9"

-- Where a message can't be spread over several symbols.
abbrev pub split_text : List ℕ
split_text =
    codes "not with --lines, --strongest, --min-version, --no-kanji, or -c gs1, gs1-unchecked, link, micro "
    ++ codes "or micro-bytes"

-- What the colors of a picture can be.
abbrev pub dark_text : List ℕ
dark_text = codes "#rrggbb or one of CSS's sixteen names, for svg, png, eps and pdf; lighter colors need --any-colors"

abbrev pub light_text : List ℕ
light_text = codes "as --dark, or transparent; in a contrast of 3 at least, unless --any-colors is given"

-- What the value of an option can be, and where the option can't be given.
abbrev pub values_text : Name → List ℕ
values_text Format = codes "terminal, svg, png, pbm, eps, pdf, escpos or zpl"
values_text Content = codes "auto, text, bytes, gs1, gs1-unchecked, link, micro or micro-bytes"
values_text Level = codes "L, M, Q or H; for a Micro symbol L, M or Q"
values_text Domain = codes "a host name, or with a port or a path, and with -c link"
values_text Strongest = codes "not for a Micro symbol"
values_text MinVersion = codes "1 to 40, not for a Micro symbol"
values_text MaxVersion = codes "1 to 40, at least --min-version, not for a Micro symbol"
values_text Scale = codes "1 to 64, and not with both --module-mm and --dpi or --dpmm"
values_text Quiet = codes "0 to 16"
values_text ModuleMm = module_text
values_text Dpi = dpi_text
values_text Dpmm = dpmm_text
values_text Inverted = codes "for terminal"
values_text Title = codes "a text without control characters, for svg, png, eps and pdf"
values_text At = codes "X,Y, each 0 to 18000, for zpl"
values_text Read = codes "not with a text"
values_text Output = output_text
values_text Lines = codes "not with a text"
values_text First = codes "0 to 1000000000, with --lines"
values_text KeepGoing = codes "with --lines"
values_text Copies = codes "1 to 99999999, for zpl"
values_text Compressed = codes "for zpl"
values_text Feed = codes "0 to 255, for escpos"
values_text Cut = codes "for escpos"
values_text Split = split_text
values_text Rotate = codes "0, 90, 180 or 270"
values_text Verbose = codes "not with --lines, see --info"
values_text Info = codes "not with the name of an output"
values_text Dark = dark_text
values_text Light = light_text
values_text AnyColors = codes "for svg, png, eps and pdf"
values_text Hri = codes "with -c gs1, gs1-unchecked or link, for terminal, svg, png, eps, zpl and pdf"
values_text NoKanji = codes "with -c bytes"
values_text Upper = codes "with -c link"
values_text _ = []

-- Where help is, on a line of its own.
abbrev pub advice : List ℕ
advice = codes "\ntry qrlabel --help"

-- What the labels of lines, or of the parts of a message, need, and what bytes that are no text
-- need on a terminal.
abbrev pub needs_stream_text : List ℕ
needs_stream_text =
    codes "--lines and --split need -f terminal, pbm, escpos or zpl, or --lines -f pdf, "
    ++ codes "or files as in -o label-%05d.png"

abbrev pub long_title_text : List ℕ
long_title_text =
    codes "invalid --title: too long: for png and pdf it has at most 1000000 bytes, for eps at most 244 "
    ++ codes "characters, of which one beyond ASCII counts 8 to 16"

abbrev pub needs_file_text : List ℕ
needs_file_text = codes "png, pbm, pdf and escpos are not for a terminal: give -o FILE, or -o -"

-- The line of some pieces: the name of the program, what is wrong, and where help is.
abbrev pub misuse_line : List (List ℕ) → List ℕ
misuse_line pieces = codes "qrlabel" ++ (codes ": " ++ (flat_map (λ piece. piece) pieces ++ 10 ∷ []))

-- The same with a word, as it is shown, between the pieces.
abbrev pub named_line : List (List ℕ) → List ℕ → List (List ℕ) → List ℕ
named_line = word_line (codes "qrlabel")

-- An option that has a value that it can't have, which is in quotes, if it is known.
abbrev pub invalid_line : Option (List ℕ) → Name → List ℕ
invalid_line None name =
    misuse_line (codes "invalid " ∷ option_word name ∷ codes ": " ∷ values_text name ∷ advice ∷ [])
invalid_line (Some value) name =
    named_line (codes "invalid " ∷ option_word name ∷ codes " " ∷ []) (shown_word true value)
    (codes ": " ∷ values_text name ∷ advice ∷ [])

-- What is written about words that are wrong, of which an option may have a value.
unfoldable pub wrong_line : Option (List ℕ) → Wrong → List ℕ
wrong_line value (unknown word) =
    named_line (codes "no option " ∷ []) (shown_word false word) (advice ∷ [])
wrong_line value (no_value name) = misuse_line (codes "no value after " ∷ option_word name ∷ advice ∷ [])
wrong_line value (second_text word) =
    named_line (codes "more than one text: " ∷ []) (shown_word false word) (advice ∷ [])
wrong_line value (invalid name) = invalid_line value name
wrong_line value long_title = misuse_line (long_title_text ∷ advice ∷ [])
wrong_line value needs_stream = misuse_line (needs_stream_text ∷ advice ∷ [])
wrong_line value needs_file = misuse_line (needs_file_text ∷ advice ∷ [])
