-- What of the input labels show, where they are written, and where their details are.
use Rattle.std.specs.Prelude.{ℕ, Bool, ◌&&◌, ◌||◌, not, if◌then◌else◌, Result, Ok, Err}
use Rattle.std.specs.Prelude.{Option, None, Some, option_and_then, is_some}
use Rattle.picture_settings.specs.declared.format.Format.{Format as FormatOf}
use Rattle.picture_settings.specs.Formats.{can_be_shown, is_stream}
use Rattle.picture_settings.specs.OptionWords.{around_first}
use Rattle.label_words.specs.declared.command.Content.{Content as ContentOf}
use Rattle.label_words.specs.declared.command.Details.{Details}
use Rattle.label_words.specs.declared.command.Details.TheVariants.{Nothing, Beside, Alone}
use Rattle.label_words.specs.declared.words.Name.TheVariants.{Text, Output, Lines, Split, Strongest}
use Rattle.label_words.specs.declared.words.Name.TheVariants.{MinVersion, Verbose, Info}
use Rattle.label_words.specs.Choices.{can_be_split, is_pdf}
use Rattle.label_words.specs.Names.{Numbering, numbering_in}
use Rattle.label_words.specs.Words.{Values, value_of, file_of, is_given, Wrong, invalid}
use Rattle.label_words.specs.Words.{needs_stream, needs_file}

-- The details alone are written to standard output. Beside labels they are written to standard
-- error, where lines that are left out are reported.
abbrev pub details_asked : Values → Result Details Wrong
details_asked values =
    if is_given values Info then (if is_some (file_of values Output) then Err (invalid Info) else Ok Alone)
    else (if not (is_given values Verbose) then Ok Nothing
    else (if is_given values Lines then Err (invalid Verbose) else Ok Beside))

-- What of the input a label shows: one shows all of it, or each shows a line, or as many as it
-- takes show all of it together. There is one output for all, or a file of its own for each.
pub data Portion : Type 0 where
  whole : Portion
  lines : Portion
  files : Numbering → Portion
  split : Portion
  parts : Numbering → Portion

-- The name of the output, if it has a number in it.
abbrev pub numbered_output : Values → Option Numbering
numbered_output values = option_and_then numbering_in (value_of values Output)

-- Whether the name of the output has a percent sign.
abbrev pub has_percent : Values → Bool
has_percent values = is_some (option_and_then (around_first 37) (value_of values Output))

-- Whether labels can follow each other: the details of symbols always can.
abbrev pub can_follow : FormatOf → Values → Bool
can_follow format values = is_stream format || is_given values Info

-- Whether the labels of lines can: they can be the pages of a document, too.
abbrev pub lines_can_follow : FormatOf → Values → Bool
lines_can_follow format values = is_pdf format || can_follow format values

-- The pictures follow each other, if they can. A percent sign is that of a number only.
abbrev pub stream_asked : Portion → (can_follow : Bool) → Values → Result Portion Wrong
stream_asked portion can_follow values =
    if has_percent values then Err (invalid Output)
    else (if can_follow then Ok portion else Err needs_stream)

-- Symbols that carry a message together have the level and the greatest version that are asked for.
-- Each has a file if the output's name has a number; else their pictures follow each other.
abbrev pub split_asked : ContentOf → FormatOf → Values → Result Portion Wrong
split_asked content format values =
    if is_given values Lines || (is_given values Strongest || is_given values MinVersion) then Err (invalid Split)
    else (if not (can_be_split content) then Err (invalid Split)
    else elim (numbered_output values)
    [ Some name ↦ Ok (parts name) | None ↦ stream_asked split (can_follow format values) values ])

-- Lines are those of an input, and not of a text. Each has a file if the output's name has a
-- number; else their pictures follow each other.
abbrev pub lines_asked : FormatOf → Values → Result Portion Wrong
lines_asked format values =
    if is_given values Text then Err (invalid Lines)
    else elim (numbered_output values)
    [ Some name ↦ Ok (files name) | None ↦ stream_asked lines (lines_can_follow format values) values ]

-- One label, the name of whose output has no number, unless more are asked for.
abbrev pub portion_asked : ContentOf → FormatOf → Values → Result Portion Wrong
portion_asked content format values =
    if is_given values Split then split_asked content format values
    else (if is_given values Lines then lines_asked format values
    else (if is_some (numbered_output values) then Err (invalid Output) else Ok whole))

-- No bytes but a text are written on a terminal, unless the words name the output.
abbrev pub terminal_asked : Bool → FormatOf → Values → Result (Unit {0}) Wrong
terminal_asked on_terminal format values =
    if on_terminal && (not (can_be_shown format) && (not (is_given values Output) && not (is_given values Info)))
    then Err needs_file else Ok tt
