-- What the program reads and writes, and its exit status.
use Rattle.std.specs.Prelude.{◌≡◌, ◌≢◌, ◌⊎◌, ◌+◌, ◌↔◌, ℕ, Bool, List, [], Result, Ok, Err, None, Some}
use Rattle.std.specs.Prelude.{true, false, ◌==◌, ◌||◌, IsTrue, IsFalse, IsErrOf, Option, codes, if◌then◌else◌}
use Rattle.std.specs.Option.{option_copied}
use Rattle.std.specs.declared.io.ErrorKind.{ErrorKind}
use Rattle.std.specs.Io.KnownBytes.{Keeps}
use Rattle.programs.specs.Devices.{Input, Output, Writes, ReadsAll, ReadsUpTo, ReadsWithin}
use Rattle.programs.specs.Outcome.{WritesDrawing, BeginsDrawing}
use Rattle.programs.specs.Reasons.{device_report, device_status}
use Rattle.programs.specs.declared.Fault.TheVariants.{Symbol, Read, Write}
use Rattle.qrcode_core.specs.declared.types.errors.QrError.TheVariants.{OutOfMemory}
use Rattle.picture_settings.specs.DrawOptions.{IsMadeOf}
use Rattle.picture_settings.specs.Settings.{invalid_setting}
use Rattle.picture_settings.specs.declared.draw_options.DrawOptions.{DrawOptions}
use Rattle.picture_settings.specs.declared.settings.Setting.{Setting}
use Rattle.label_words.specs.CommandOutcomes.{label_of}
use Rattle.label_words.specs.Commands.{Command, asks_help, asks_version, asks_label}
use Rattle.label_words.specs.Help.{help_text, version_line}
use Rattle.labels.specs.FileStates.{FilesState, AddsFiles}
use Rattle.labels.specs.Documents.{document}
use Rattle.labels.specs.Folders.{folder, part_files, PutsSome}
use Rattle.single_label.specs.Labels.{ShowsLabel, IsLabelStop, AreDetailsBeside}
use Rattle.labels.specs.Lines.{IsLinesOutcome, Made, Place, stream}
use Rattle.label_words.specs.Misuses.{wrong_line}
use Rattle.label_words.specs.Names.{Numbering, numbered}
use Rattle.single_label.specs.Pages.{are_pages}
use Rattle.single_label.specs.Contents.{most_bytes}
use Rattle.single_label.specs.Parts.{ShowMessage, ShowsMessage, IsMessageStop, most_together}
use Rattle.label_words.specs.Numberings.{numbering_of}
use Rattle.label_words.specs.Settings.{setting_wrong}
use Rattle.labels.specs.Sizes.{size_report}
use Rattle.labels.specs.Stops.{Devices, stop_report, end_report, stop_status}
use Rattle.label_words.specs.Words.{Values, Wrong, value_said}
use Rattle.label_words.specs.declared.command.Label.{Label}
use Rattle.labels.specs.declared.runs.TheConstants.{LEFT_OUT}
use Rattle.label_words.specs.declared.command.Portion.{Portion}
use Rattle.label_words.specs.declared.command.Portion.TheVariants.{Whole, Lines, Files as FilesOf, Split, Parts}
use Rattle.labels.specs.declared.stop.LineStop.{LineStop}
use Rattle.single_label.specs.declared.stop.Stop.{Stop}
use Rattle.single_label.specs.declared.stop.Stop.TheVariants.{Fault}

-- What is drawn of the whole input: which drawing shows which bytes, which details stand beside it,
-- why there is none of some bytes, and how many bytes a drawing can show.
pub record Drawer : Type 1 where
  pub shows : List ℕ → List ℕ → Type 0
  pub details : List ℕ → List ℕ → Type 0
  pub stops : List ℕ → Stop → Type 0
  pub most : ℕ

-- One label.
abbrev pub one_of : Label → DrawOptions → Drawer
one_of label options = record {
  shows = ShowsLabel label options;
  details = AreDetailsBeside label (λ other. ShowsLabel other options);
  stops = IsLabelStop label;
  most = most_bytes label.content;
}

-- The labels of the symbols that carry the input together, one after the other.
abbrev pub message_of : Label → DrawOptions → Drawer
message_of label options = record {
  shows = ShowsMessage label options;
  details = AreDetailsBeside label (λ other. ShowsMessage other options);
  stops = IsMessageStop label;
  most = most_together label.content;
}

-- There is no drawing of the bytes that were read, for this reason.
pub record IsStopped (drawer : Drawer) (stop : Stop) (input : Input) : Type 0 where
  pub bytes : List ℕ
  pub read : ReadsUpTo drawer.most input bytes
  pub stopped : drawer.stops bytes stop

-- What is written for an outcome. On success the drawing of all that was there to be read, and it
-- was flushed; the outcome has the details. Where reading failed, or there is no drawing,
-- nothing. Where writing failed, a beginning of the drawing.
abbrev pub WritesLabelOutcome : Drawer → Input → Output → Made → Type 0
WritesLabelOutcome drawer input output (Ok details) =
    WritesDrawing (λ bytes drawing. drawer.shows bytes drawing × drawer.details bytes details) input output
WritesLabelOutcome drawer input output (Err (Fault Read)) = Keeps output.before output.after
WritesLabelOutcome drawer input output (Err (Fault Write)) = BeginsDrawing drawer.shows input output
WritesLabelOutcome drawer input output (Err stop) =
    (stop ≢ Fault (Symbol OutOfMemory) → IsStopped drawer stop input)
    × Keeps output.before output.after

-- The outcome of a drawing: what was written, and that the error is `Read` exactly if reading
-- failed, and `Write` exactly if writing failed.
pub record IsLabelOutcome (drawer : Drawer) (input : Input) (output : Output)
    (outcome : Made) : Type 0 where
  pub writes : WritesLabelOutcome drawer input output outcome
  pub read : IsErrOf outcome (Fault Read) ↔ IsTrue input.failed
  pub write : IsErrOf outcome (Fault Write) ↔ IsTrue output.failed

-- The devices of a label, and why they failed, if they did. The output has this name.
abbrev pub devices_in : Label → Input → List ℕ → Option ErrorKind → Devices
devices_in label input target not_written = record {
  source = label.source.now;
  not_read = input.reason;
  target = target;
  not_written = not_written;
}

-- The exit status, and what is written on standard error.
abbrev pub label_status : Devices → Made → ℕ
label_status devices (Ok details) = 0
label_status devices (Err stop) = stop_status devices stop

abbrev pub label_report : Devices → Made → List ℕ
label_report devices (Ok details) = details
label_report devices (Err stop) = stop_report (codes "qrlabel") devices stop

-- The input was drawn, and the status and the line on standard error are those of the outcome. At
-- most one byte more was read than a drawing can show.
pub record ServesLabel (drawer : Drawer) (label : Label) (input : Input) (output errors : Output)
    (status : ℕ) : Type 0 where
  pub outcome : Made
  pub is_outcome : IsLabelOutcome drawer input output outcome
  pub within : ReadsWithin (drawer.most + 1) input
  pub status_is : status ≡ label_status (devices_in label input label.target.now output.reason) outcome
  pub reports : Writes errors (label_report (devices_in label input label.target.now output.reason) outcome)

-- ---- Parts in files

-- The drawings show all that was there to be read, and these are their details.
pub record AreDrawings (label : Label) (options : DrawOptions) (input : Input)
    (drawings : List (List ℕ)) (details : List ℕ) : Type 0 where
  pub bytes : List ℕ
  pub read : ReadsAll input bytes
  pub shown : ShowMessage label options bytes drawings
  pub are_details : AreDetailsBeside label (λ other. ShowsMessage other options) bytes details

-- Files of some drawings were written, and the next was not.
abbrev pub PutsBeginning : Label → DrawOptions → Input → (old new : FilesState) → Numbering → List ℕ → Stop → Type 0
PutsBeginning label options input old new name path stop =
    (drawings : List (List ℕ)) × (details : List ℕ) × AreDrawings label options input drawings details
    × PutsSome name drawings old new stop path

-- The files that are written for an outcome. On success one for each symbol, with its number from 1
-- on. Where reading failed, or there are no symbols, none. Where writing failed, or memory ran out
-- for a name, those of the symbols before.
abbrev pub PutsOutcome : Label → DrawOptions → Input → (old new : FilesState) → Numbering → List ℕ → Made → Type 0
PutsOutcome label options input old new name path (Ok details) =
    (drawings : List (List ℕ)) × AreDrawings label options input drawings details
    × AddsFiles old.files new.files (part_files name 1 drawings)
PutsOutcome label options input old new name path (Err (Fault Read)) = AddsFiles old.files new.files []
PutsOutcome label options input old new name path (Err (Fault Write)) =
    PutsBeginning label options input old new name path (Fault Write)
PutsOutcome label options input old new name path (Err stop) =
    ((stop ≢ Fault (Symbol OutOfMemory) → IsStopped (message_of label options) stop input)
    × AddsFiles old.files new.files [])
    ⊎ PutsBeginning label options input old new name path stop

-- The same, and that the error is `Read` exactly if reading failed, and `Write` exactly if writing
-- failed. The path is the name of the file that could not be written.
pub record IsPartsOutcome (label : Label) (options : DrawOptions) (input : Input) (old new : FilesState)
    (name : Numbering) (path : List ℕ) (outcome : Made) : Type 0 where
  pub puts : PutsOutcome label options input old new name path outcome
  pub read : IsErrOf outcome (Fault Read) ↔ IsTrue input.failed
  pub write : IsErrOf outcome (Fault Write) ↔ IsTrue new.failed

-- The files were written, and the status and the line on standard error are those of the outcome.
pub record ServesParts (label : Label) (options : DrawOptions) (input : Input) (old new : FilesState)
    (name : Numbering) (errors : Output) (status : ℕ) : Type 0 where
  pub outcome : Made
  pub path : List ℕ
  pub is_outcome : IsPartsOutcome label options input old new name path outcome
  pub within : ReadsWithin (most_together label.content + 1) input
  pub status_is : status ≡ label_status (devices_in label input path new.reason) outcome
  pub reports : Writes errors (label_report (devices_in label input path new.reason) outcome)

-- ---- Lines

-- The exit status, and what is written on standard error.
abbrev pub lines_status : Devices → Result Bool LineStop → ℕ
lines_status devices (Ok every) = if every then 0 else LEFT_OUT
lines_status devices (Err at) = stop_status devices at.stop

abbrev pub lines_reported : Devices → Result Bool LineStop → List ℕ
lines_reported devices (Ok every) = []
lines_reported devices (Err at) = end_report devices at

-- The number of the line at which the labels end, if they do.
abbrev pub last_number : Result Bool LineStop → ℕ
last_number (Ok every) = 0
last_number (Err at) = at.number

-- What was written after this.
abbrev pub later : Output → Output → Output
later first all = record {
  before = first.after;
  after = all.after;
  flushed = all.flushed;
  failed = all.failed;
  reason = all.reason;
}

-- The devices of the labels of lines. The label of a line is written to the output of this name.
abbrev pub devices_at : Label → Input → Place → (ℕ → List ℕ) → Result Bool LineStop → Devices
devices_at label input place target outcome =
    devices_in label input (target (last_number outcome)) place.reason

-- The labels of the lines were drawn, and the status and the last line on standard error are those
-- of the outcome. Before this line come those of the lines that were left out.
pub record ServesLines (label : Label) (options : DrawOptions) (input : Input) (place : Output → Place)
    (target : ℕ → List ℕ) (errors : Output) (status : ℕ) : Type 0 where
  pub outcome : Result Bool LineStop
  pub said : Output
  pub begins : said.before ≡ errors.before
  pub sound : IsTrue said.failed → IsTrue errors.failed
  pub is_outcome : IsLinesOutcome label options input (place said) outcome
  pub status_is : status ≡ lines_status (devices_at label input (place said) target outcome) outcome
  pub reports :
      Writes (later said errors) (lines_reported (devices_at label input (place said) target outcome) outcome)

-- ---- The whole program

-- The words are wrong: the status is 2, and nothing is read or drawn.
pub record Misused (values : Values) (wrong : Wrong) (kept : Type 0) (errors : Output) (status : ℕ) :
    Type 0 where
  pub status_is : status ≡ 2
  pub untouched : kept
  pub reports : Writes errors (wrong_line (value_said values wrong) wrong)

-- What is written on standard error of the output.
abbrev pub output_report : Output → List ℕ
output_report output =
    if output.failed then device_report (codes "qrlabel") (codes "write") (codes "standard output") output.reason
    else []

-- A text was written and flushed, or writing failed.
pub record Shows (text : List ℕ) (output errors : Output) (status : ℕ) : Type 0 where
  pub writes : Writes output text
  pub flushed : IsFalse output.failed → output.flushed ≡ output.after
  pub status_is : status ≡ (if output.failed then device_status output.reason else 0)
  pub reports : Writes errors (output_report output)

-- The place for files before and after.
pub record Files : Type 0 where
  pub old : FilesState
  pub new : FilesState

-- The label of the whole input was drawn, or those of its lines, or of the symbols that carry it
-- together: in one output, or each in a file. Pages are in one document.
abbrev pub ServesPortion : Portion → Label → DrawOptions → Input → Output → Files → Output → ℕ → Type 0
ServesPortion Whole label options input output files errors status =
    ServesLabel (one_of label options) label input output errors status
ServesPortion Lines label options input output files errors status =
    ((are_pages label options ≡ true)
    × ServesLines label options input (document (option_copied options.title) output label.first)
    (λ number. label.target.now) errors status)
    ⊎ ((are_pages label options ≡ false)
    × ServesLines label options input (stream output label.first) (λ number. label.target.now) errors status)
ServesPortion (FilesOf name) label options input output files errors status =
    ServesLines label options input (folder files.old files.new label.first (numbering_of name))
    (numbered (numbering_of name)) errors status
ServesPortion Split label options input output files errors status =
    ServesLabel (message_of label options) label input output errors status
ServesPortion (Parts name) label options input output files errors status =
    ServesParts label options input files.old files.new (numbering_of name) errors status

-- There are labels: of all, or of each line that was not left out.
abbrev pub is_drawn : ℕ → Bool
is_drawn status = (status == 0) || (status == LEFT_OUT)

-- The label was drawn with the options that its settings ask for. What this writes on standard error
-- is followed, where there are labels, by the line of a width that is not the one that was asked for.
pub record DrawsAsAsked (label : Label) (input : Input) (output : Output) (files : Files)
    (errors : Output) (status : ℕ) : Type 0 where
  pub options : DrawOptions
  pub valid : invalid_setting label.format label.settings ≡ None
  pub made : IsMadeOf label.format label.settings options
  pub said : Output
  pub begins : said.before ≡ errors.before
  pub sound : IsTrue said.failed → IsTrue errors.failed
  pub serves : ServesPortion label.portion label options input output files said status
  pub reports : Writes (later said errors) (if is_drawn status then size_report label options else [])

-- The first setting that is not valid is wrong, and this needs no memory; if all are valid, the
-- label is drawn.
abbrev pub RunsLabel : Values → Label → (kept : Type 0) → Input → Output → Files → Output → ℕ → Type 0
RunsLabel values label kept input output files errors status =
    DrawsAsAsked label input output files errors status
    ⊎ ((setting : Setting) × (invalid_setting label.format label.settings ≡ Some setting)
    × Misused values (setting_wrong values label.format setting) kept errors status)

-- What the program does for what the words ask for.
abbrev pub Runs : Values → Result Command Wrong → (kept : Type 0) → Input → Output → Files → Output → ℕ → Type 0
Runs values (Err wrong) kept input output files errors status = Misused values wrong kept errors status
Runs values (Ok asks_help) kept input output files errors status = Shows help_text output errors status
Runs values (Ok asks_version) kept input output files errors status = Shows version_line output errors status
Runs values (Ok (asks_label asked)) kept input output files errors status =
    (given : Label) × (label_of given ≡ asked) × RunsLabel values given kept input output files errors status
