-- The words of the command line, and what they say.
use Rattle.std.specs.Prelude.{ℕ, ◌==◌, nat_lt, Bool, true, false, ◌&&◌, not, if◌then◌else◌, codes}
use Rattle.std.specs.Prelude.{List, [], ◌∷◌, length, take, drop, slice_index, get_or, set, replicate}
use Rattle.std.specs.Prelude.{Option, None, Some, is_some, option_and_then, Result, Ok, Err}
use Rattle.std.specs.Str.{bytes_eq}
use Rattle.picture_settings.specs.OptionWords.{around_first}
use Rattle.label_words.specs.declared.words.TheConstants.{COUNT}
use Rattle.label_words.specs.declared.words.Name.{Name}
use Rattle.label_words.specs.declared.words.Name.TheVariants.{Text, Format, Content, Level, Strongest}
use Rattle.label_words.specs.declared.words.Name.TheVariants.{MinVersion, MaxVersion, Scale, Quiet}
use Rattle.label_words.specs.declared.words.Name.TheVariants.{ModuleMm, Dpi, Inverted, Title, At, Read}
use Rattle.label_words.specs.declared.words.Name.TheVariants.{Output, AllowEmpty, Help, Version, Lines}
use Rattle.label_words.specs.declared.words.Name.TheVariants.{First, KeepGoing, KeepNewline}
use Rattle.label_words.specs.declared.words.Name.TheVariants.{Copies, Compressed, Feed, Cut, Split, Rotate}
use Rattle.label_words.specs.declared.words.Name.TheVariants.{Verbose, Info, Dark, Light, AnyColors, Domain}
use Rattle.label_words.specs.declared.words.Name.TheVariants.{Hri, NoKanji, Dpmm, Upper}

-- What a table has for a word.
abbrev pub value_among : {A : Type 0} → List (List ℕ × A) → List ℕ → Option A
value_among [] word = None
value_among (entry ∷ entries) word =
    elim (bytes_eq word entry.0) [ true ↦ Some entry.1 | false ↦ value_among entries word ]

-- The words of the options. After `--` come texts.
abbrev pub names : List (List ℕ × Name)
names =
    (codes "-f", Format) ∷ (codes "--format", Format)
    ∷ (codes "-c", Content) ∷ (codes "--content", Content)
    ∷ (codes "--no-kanji", NoKanji)
    ∷ (codes "--domain", Domain)
    ∷ (codes "--upper", Upper)
    ∷ (codes "-l", Level) ∷ (codes "--level", Level)
    ∷ (codes "--strongest", Strongest)
    ∷ (codes "--min-version", MinVersion)
    ∷ (codes "--max-version", MaxVersion)
    ∷ (codes "-r", Read) ∷ (codes "--read", Read)
    ∷ (codes "-o", Output) ∷ (codes "--output", Output)
    ∷ (codes "--lines", Lines)
    ∷ (codes "--first", First)
    ∷ (codes "-k", KeepGoing) ∷ (codes "--keep-going", KeepGoing)
    ∷ (codes "--keep-newline", KeepNewline)
    ∷ (codes "--split", Split)
    ∷ (codes "-v", Verbose) ∷ (codes "--verbose", Verbose)
    ∷ (codes "--info", Info)
    ∷ (codes "--allow-empty", AllowEmpty)
    ∷ (codes "-h", Help) ∷ (codes "--help", Help)
    ∷ (codes "-V", Version) ∷ (codes "--version", Version)
    ∷ (codes "--", Text)
    ∷ []

-- Those of pictures.
abbrev pub picture_names : List (List ℕ × Name)
picture_names =
    (codes "-s", Scale) ∷ (codes "--scale", Scale)
    ∷ (codes "-q", Quiet) ∷ (codes "--quiet", Quiet)
    ∷ (codes "--module-mm", ModuleMm)
    ∷ (codes "--dpi", Dpi)
    ∷ (codes "--dpmm", Dpmm)
    ∷ (codes "--inverted", Inverted)
    ∷ (codes "--title", Title)
    ∷ (codes "--at", At)
    ∷ (codes "--copies", Copies)
    ∷ (codes "--compressed", Compressed)
    ∷ (codes "--feed", Feed)
    ∷ (codes "--cut", Cut)
    ∷ (codes "--rotate", Rotate)
    ∷ (codes "--dark", Dark)
    ∷ (codes "--light", Light)
    ∷ (codes "--any-colors", AnyColors)
    ∷ (codes "--hri", Hri)
    ∷ []

unfoldable pub picture_named : List ℕ → Option Name
picture_named word = value_among picture_names word

-- The option that a word names.
unfoldable pub named : List ℕ → Option Name
named word = elim (value_among names word) [ Some name ↦ Some name | None ↦ picture_named word ]

-- The number of an option: its place among the values.
abbrev pub option_number : Name → ℕ
option_number Text = 0
option_number Format = 1
option_number Content = 2
option_number Level = 3
option_number Strongest = 4
option_number MinVersion = 5
option_number MaxVersion = 6
option_number Scale = 7
option_number Quiet = 8
option_number ModuleMm = 9
option_number Dpi = 10
option_number Inverted = 11
option_number Title = 12
option_number At = 13
option_number Read = 14
option_number Output = 15
option_number AllowEmpty = 16
option_number Help = 17
option_number Version = 18
option_number Lines = 19
option_number First = 20
option_number KeepGoing = 21
option_number KeepNewline = 22
option_number Copies = 23
option_number Compressed = 24
option_number Feed = 25
option_number Cut = 26
option_number Split = 27
option_number Rotate = 28
option_number Verbose = 29
option_number Info = 30
option_number Dark = 31
option_number Light = 32
option_number AnyColors = 33
option_number Domain = 34
option_number Hri = 35
option_number NoKanji = 36
option_number Dpmm = 37
option_number Upper = 38

-- Whether the next word is the value of the option.
abbrev pub takes_value : Name → Bool
takes_value Strongest = false
takes_value Inverted = false
takes_value Lines = false
takes_value AllowEmpty = false
takes_value KeepGoing = false
takes_value KeepNewline = false
takes_value Compressed = false
takes_value Cut = false
takes_value Split = false
takes_value Verbose = false
takes_value Info = false
takes_value AnyColors = false
takes_value Hri = false
takes_value NoKanji = false
takes_value Upper = false
takes_value Help = false
takes_value Version = false
takes_value _ = true

-- Whether a word is written like an option: a hyphen, and more.
abbrev pub looks_like_option : List ℕ → Bool
looks_like_option word = nat_lt 1 (length word) && (slice_index word 0 == 45)

-- Whether it is the text.
abbrev pub is_text : Name → Bool
is_text Text = true
is_text _ = false

-- `--scale=4`: an option and its value, which comes after the first `=`.
abbrev pub assigned_to : Option Name → List ℕ → Option (Name × List ℕ)
assigned_to (Some name) value = if takes_value name && not (is_text name) then Some (name, value) else None
assigned_to None value = None

abbrev pub assigned : List ℕ → Option (Name × List ℕ)
assigned word = option_and_then (λ parts. assigned_to (named parts.0) parts.1) (around_first 61 word)

-- What comes after the start of a word, if it starts so.
unfoldable pub rest_after : List ℕ → List ℕ → Option (List ℕ)
rest_after start word =
    if bytes_eq (take (length start) word) start then Some (drop (length start) word) else None

-- The options of one letter that have a value.
abbrev pub letters : List (List ℕ × Name)
letters =
    (codes "-f", Format) ∷ (codes "-c", Content) ∷ (codes "-l", Level) ∷ (codes "-s", Scale)
    ∷ (codes "-q", Quiet) ∷ (codes "-r", Read) ∷ (codes "-o", Output) ∷ []

-- The option with which a word starts, and the rest of the word.
abbrev pub started_by : List (List ℕ × Name) → List ℕ → Option (Name × List ℕ)
started_by [] word = None
started_by (entry ∷ entries) word =
    elim (rest_after entry.0 word) [ Some value ↦ Some (entry.1, value) | None ↦ started_by entries word ]

-- `-s4`: an option of one letter and its value.
abbrev pub joined_value : List ℕ → Option (Name × List ℕ)
joined_value = started_by letters

-- What is wrong with words: a word that names no option; an option with no value after it; a
-- text where there is one; an option that has a value that it can't have, or does not go with
-- the others; a title that is too long for the format; a format in which the labels of lines can't
-- follow each other; bytes that are no text, on a terminal.
pub data Wrong : Type 0 where
  unknown : List ℕ → Wrong
  no_value : Name → Wrong
  second_text : List ℕ → Wrong
  invalid : Name → Wrong
  long_title : Wrong
  needs_stream : Wrong
  needs_file : Wrong

-- The last value of each option, by its number. The value of a flag is empty.
abbrev pub Values : Type 0
Values = List (Option (List ℕ))

-- The values so far, and the option whose value is the next word. If this is the text, all words
-- that follow are texts.
pub record Scan : Type 0 where
  pub pending : Option Name
  pub values : Values

-- No value is awaited.
abbrev pub ready : Values → Scan
ready values = record { pending = None; values = values }

-- One value more, which replaces an earlier one of the same option.
abbrev pub with : Values → Name → List ℕ → Scan
with values name word = ready (set values (option_number name) (Some word))

-- The value of an option, if it is given.
abbrev pub value_of : Values → Name → Option (List ℕ)
value_of values name = get_or values (option_number name) None

-- The name of the file that an option gives: `-` is standard input or output, and no file.
abbrev pub file_of : Values → Name → Option (List ℕ)
file_of values name =
    option_and_then (λ word. if bytes_eq word (codes "-") then None else Some word) (value_of values name)

-- Whether an option is given.
abbrev pub is_given : Values → Name → Bool
is_given values name = is_some (value_of values name)

-- The value of the option that is wrong, if it has one.
abbrev pub value_said : Values → Wrong → Option (List ℕ)
value_said values (invalid name) = if takes_value name then value_of values name else None
value_said values _ = None

-- A word is the text, if there is no text yet.
abbrev pub read_as_text : Option Name → Values → List ℕ → Result Scan Wrong
read_as_text pending values word =
    if is_some (value_of values Text) then Err (second_text word)
    else Ok (record { pending = pending; values = set values (option_number Text) (Some word) })

-- A word that is written like an option has an option and its value in it.
abbrev pub read_parted : Values → Option (Name × List ℕ) → List ℕ → Result Scan Wrong
read_parted values (Some (name, value)) word = Ok (with values name value)
read_parted values None word = Err (unknown word)

-- The option and the value that a word has in it.
abbrev pub parted : List ℕ → Option (Name × List ℕ)
parted word = elim (assigned word) [ Some found ↦ Some found | None ↦ joined_value word ]

-- A word that names no option has one in it, if it is written like one, and else is the text.
abbrev pub read_plain : Values → List ℕ → Result Scan Wrong
read_plain values word =
    if looks_like_option word then read_parted values (parted word) word else read_as_text None values word

-- A word that may name an option.
abbrev pub read_name : Values → Option Name → List ℕ → Result Scan Wrong
read_name values (Some name) word =
    if takes_value name then Ok (record { pending = Some name; values = values }) else Ok (with values name [])
read_name values None word = read_plain values word

-- A word that is awaited: a value, or a text after `--`.
abbrev pub read_awaited : Values → Name → List ℕ → Result Scan Wrong
read_awaited values name word =
    if is_text name then read_as_text (Some name) values word else Ok (with values name word)

-- A word is one that is awaited, or an option, or the text.
unfoldable pub read_word : Scan → List ℕ → Result Scan Wrong
read_word reading word =
    elim reading.pending [
      | Some name ↦ read_awaited reading.values name word
      | None ↦ read_name reading.values (named word) word
    ]

-- Words one after the other.
abbrev pub read_words : Scan → List (List ℕ) → Result Scan Wrong
read_words reading [] = Ok reading
read_words reading (word ∷ words) =
    elim (read_word reading word) [ Ok next ↦ read_words next words | Err wrong ↦ Err wrong ]

-- At the end no value is awaited, but perhaps a text.
abbrev pub last_awaited : Values → Name → Result Values Wrong
last_awaited values name = if is_text name then Ok values else Err (no_value name)

abbrev pub words_ended : Result Scan Wrong → Result Values Wrong
words_ended (Ok reading) =
    elim reading.pending [ Some name ↦ last_awaited reading.values name | None ↦ Ok reading.values ]
words_ended (Err wrong) = Err wrong

-- What words say.
unfoldable pub values_in : List (List ℕ) → Result Values Wrong
values_in words = words_ended (read_words (ready (replicate COUNT None)) words)
