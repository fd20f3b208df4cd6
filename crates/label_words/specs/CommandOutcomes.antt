-- What the program's labels and commands stand for.
use Rattle.std.specs.Prelude.{ℕ, Bool, true, false, ◌&&◌, not, List, Option, Result, Ok, Err}
use denote.Ref.{Bor}
use Rattle.std.specs.Option.{option_copied}
use Rattle.picture_settings.specs.declared.settings.Settings.{Settings}
use Rattle.label_words.specs.declared.command.Command.{Command as Given}
use Rattle.label_words.specs.declared.command.Command.TheVariants.{Help, Version, Label as LabelGiven}
use Rattle.label_words.specs.declared.command.Label.{Label as Drawn}
use Rattle.label_words.specs.declared.words.Misuse.{Misuse}
use Rattle.label_words.specs.declared.command.Portion.{Portion as Shown}
use Rattle.label_words.specs.declared.command.Portion.TheVariants.{Whole, Lines, Files, Split, Parts}
use Rattle.label_words.specs.declared.command.{Details.Details, Details.TheVariants.Alone}
use Rattle.label_words.specs.Choices.{is_pdf}
use Rattle.label_words.specs.Commands.{Wishes, Label, Command}
use Rattle.label_words.specs.Portions.{Portion, whole, lines, files, split, parts}
use Rattle.label_words.specs.Commands.{asks_help, asks_version, asks_label}
use Rattle.label_words.specs.Numberings.{numbering_of}
use Rattle.label_words.specs.Values.{wrong_of}
use Rattle.label_words.specs.Words.{Wrong}

-- What a result of the program stands for: its value, or the wrong words of its misuse.
abbrev pub outcome : {A : Type 0} → Result A Misuse → Result A Wrong
outcome (Ok thing) = Ok thing
outcome (Err misuse) = Err (wrong_of misuse)

abbrev pub text_outcome : Result (Bor (List ℕ)) Misuse → Result (List ℕ) Wrong
text_outcome (Ok text) = Ok text.now
text_outcome (Err misuse) = Err (wrong_of misuse)

abbrev pub title_outcome : Result (Option (Bor (List ℕ))) Misuse → Result (Option (List ℕ)) Wrong
title_outcome (Ok title) = Ok (option_copied title)
title_outcome (Err misuse) = Err (wrong_of misuse)

-- The settings of a picture.
abbrev pub wishes_of : Settings → Wishes
wishes_of s = record {
  scale = s.scale;
  quiet = s.quiet;
  module_um = s.module_um;
  dpi_tenths = s.dpi_tenths;
  inverted = s.inverted;
  title = option_copied s.title;
  caption = option_copied s.caption;
  at = s.at;
  copies = s.copies;
  compressed = s.compressed;
  feed = s.feed;
  cut = s.cut;
  colors = s.colors;
  any_colors = s.any_colors;
}

-- The settings that a result stands for, or the wrong words.
abbrev pub settings_outcome : Result Settings Misuse → Result Wishes Wrong
settings_outcome (Ok settings) = Ok (wishes_of settings)
settings_outcome (Err misuse) = Err (wrong_of misuse)

abbrev pub portion_of : Shown → Portion
portion_of Whole = whole
portion_of Lines = lines
portion_of (Files name) = files (numbering_of name)
portion_of Split = split
portion_of (Parts name) = parts (numbering_of name)

-- How much a result asks to draw of an input, or the wrong words.
abbrev pub portion_outcome : Result Shown Misuse → Result Portion Wrong
portion_outcome (Ok shown) = Ok (portion_of shown)
portion_outcome (Err misuse) = Err (wrong_of misuse)

abbrev pub label_of : Drawn → Label
label_of drawn = record {
  content = drawn.content;
  domain = drawn.domain.now;
  upper = drawn.upper;
  symbol = drawn.symbol;
  format = drawn.format;
  wishes = wishes_of drawn.settings;
  allow_empty = drawn.allow_empty;
  trims = drawn.trims;
  portion = portion_of drawn.portion;
  first = drawn.first;
  keeps_going = drawn.keeps_going;
  source = drawn.source.now;
  target = drawn.target.now;
  colored = drawn.colored;
  turn = drawn.turn;
  details = drawn.details;
  dpi_tenths = drawn.dpi_tenths;
  asked_um = drawn.asked_um;
  hri = drawn.hri;
}

-- Whether the labels of lines are the pages of one document.
abbrev pub are_lines : Shown → Bool
are_lines Lines = true
are_lines _ = false

abbrev pub draws_nothing : Details → Bool
draws_nothing Alone = true
draws_nothing _ = false

abbrev pub is_document : Drawn → Bool
is_document drawn = are_lines drawn.portion && (is_pdf drawn.format && not (draws_nothing drawn.details))

abbrev pub label_outcome : Result Drawn Misuse → Result Label Wrong
label_outcome (Ok drawn) = Ok (label_of drawn)
label_outcome (Err misuse) = Err (wrong_of misuse)

abbrev pub command_of : Given → Command
command_of Help = asks_help
command_of Version = asks_version
command_of (LabelGiven drawn) = asks_label (label_of drawn)

-- The command that a result stands for, or the wrong words.
abbrev pub command_outcome : Result Given Misuse → Result Command Wrong
command_outcome (Ok given) = Ok (command_of given)
command_outcome (Err misuse) = Err (wrong_of misuse)
