-- What the values of the program's types stand for. It is not in `Words`, since the contracts of
-- the file that declares the types use `Words`: that would be an import cycle.
use Rattle.std.specs.Prelude.{ℕ, List, map, Result, Ok, Err}
use denote.Ref.{Bor}
use Rattle.std.specs.Option.{option_copied}
use Rattle.label_words.specs.declared.words.Misuse.{Misuse}
use Rattle.label_words.specs.declared.words.Misuse.TheVariants.{Unknown, NoValue, SecondText, Invalid}
use Rattle.label_words.specs.declared.words.Misuse.TheVariants.{LongTitle, NeedsStream, NeedsFile}
use Rattle.label_words.specs.declared.words.Name.{Name}
use Rattle.label_words.specs.declared.words.Reading.{Reading}
use Rattle.label_words.specs.declared.words.Values.{Values as Kept}
use Rattle.label_words.specs.Words.{Scan, Values, Wrong, unknown, no_value, second_text, invalid}
use Rattle.label_words.specs.Words.{long_title, needs_stream, needs_file}

-- The wrong words that a misuse stands for.
abbrev pub wrong_of : Misuse → Wrong
wrong_of (Unknown word) = unknown word.now
wrong_of (NoValue name) = no_value name
wrong_of (SecondText word) = second_text word.now
wrong_of (Invalid name) = invalid name
wrong_of LongTitle = long_title
wrong_of NeedsStream = needs_stream
wrong_of NeedsFile = needs_file

-- An option and its value.
abbrev pub parted_of : Name × Bor (List ℕ) → Name × List ℕ
parted_of (name, value) = (name, value.now)

abbrev pub scan_of : Reading → Scan
scan_of reading = record { pending = reading.pending; values = map option_copied reading.values }

abbrev pub scan_outcome : Result Reading Misuse → Result Scan Wrong
scan_outcome (Ok reading) = Ok (scan_of reading)
scan_outcome (Err misuse) = Err (wrong_of misuse)

-- The values of the program.
abbrev pub said : Kept → Values
said values = map option_copied values.values

-- The values of the options that a result stands for, or the wrong words.
abbrev pub values_outcome : Result Kept Misuse → Result Values Wrong
values_outcome (Ok values) = Ok (said values)
values_outcome (Err misuse) = Err (wrong_of misuse)
