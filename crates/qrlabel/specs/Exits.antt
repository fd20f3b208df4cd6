-- What `qrlabel` does with the devices that its words name, and its exit status. What a file,
-- standard input or standard output has, no contract can say: these are some devices.
use Rattle.std.specs.Prelude.{◌≡◌, ◌⊎◌, ◌==◌, ◌&&◌, ◌++◌, ◌∷◌, ℕ, Bool, true, false, IsTrue, IsFalse}
use Rattle.std.specs.Prelude.{if◌then◌else◌, Option, Some, List, [], codes, Ok}
use Rattle.std.specs.declared.io.ErrorKind.{ErrorKind}
use Rattle.programs.specs.Devices.{Input, Output, SinkState, Writes, output}
use Rattle.programs.specs.Quotes.{shown_word, word_line}
use Rattle.programs.specs.Reasons.{device_report, device_status}
use Rattle.label_words.specs.CommandOutcomes.{is_document, label_of}
use Rattle.label_words.specs.Commands.{asks_label, command_asked}
use Rattle.label_words.specs.Words.{Values, file_of, is_given, value_of}
use Rattle.label_words.specs.declared.command.Label.{Label}
use Rattle.label_words.specs.declared.words.Name.TheVariants.{Output as OutputName, Read, Text}
use Rattle.labels.specs.Reports.{Reports}
use Rattle.labels.specs.Runs.{Files, Runs, is_drawn}
use Rattle.labels.specs.declared.runs.TheConstants.{LEFT_OUT}

-- The exit status of the process: 1 if lines were left out, else the status of `run` of `labels`.
abbrev pub exit_status : ℕ → ℕ
exit_status status = if status == LEFT_OUT then 1 else status

-- A device can't be read, or can't be written: the status and the line are those of the reason.
pub record Fails (what name : List ℕ) (errors : Output) (status : ℕ) : Type 0 where
  pub reason : ErrorKind
  pub status_is : status ≡ device_status (Some reason)
  pub reports : Writes errors (device_report (codes "qrlabel") what name (Some reason))

-- ---- The input

-- Nothing was read, and nothing was drawn.
abbrev pub Untouched : Input → Output → Type 0
Untouched input labels = (input.after ≡ input.before) × (labels.after ≡ labels.before)

-- What the words ask for was done with this input, as `run` does it, and with some place for files.
pub record RunsOn (values : Values) (on_terminal : Bool) (input : Input) (labels errors : Output)
    (status : ℕ) : Type 0 where
  pub files : Files
  pub runs :
      Runs values (command_asked on_terminal values) (Untouched input labels) input labels files errors status

-- Memory ran out before there was an input.
pub record LacksMemory (labels errors : Output) (status : ℕ) : Type 0 where
  pub status_is : status ≡ 1
  pub untouched : labels.after ≡ labels.before
  pub reports : Writes errors (codes "qrlabel: out of memory" ++ 10 ∷ [])

-- What the words ask for was done with some input, or memory ran out before.
abbrev pub RunsDevice : Values → Bool → Output → Output → ℕ → Type 0
RunsDevice values on_terminal labels errors status =
    ((input : Input) × RunsOn values on_terminal input labels errors status)
    ⊎ LacksMemory labels errors status

-- The file that the words name can't be read, and nothing was drawn.
pub record LacksFile (values : Values) (labels errors : Output) (status : ℕ) : Type 0 where
  pub path : List ℕ
  pub named : file_of values Read ≡ Some path
  pub untouched : labels.after ≡ labels.before
  pub fails : Fails (codes "read") path errors status

-- What the words ask for was done with the input that they name. A text among the words is known;
-- what a file or standard input has is not.
pub record RunsNamed (values : Values) (on_terminal : Bool) (labels errors : Output) (status : ℕ) :
    Type 0 where
  pub input : Input
  pub text : IsTrue (is_given values Text) → input.before ≡ value_of values Text
  pub runs : RunsOn values on_terminal input labels errors status

-- The same, or there is no text among the words, and no input.
abbrev pub RunsInput : Values → Bool → Output → Output → ℕ → Type 0
RunsInput values on_terminal labels errors status =
    RunsNamed values on_terminal labels errors status
    ⊎ (IsFalse (is_given values Text)
    × (LacksFile values labels errors status ⊎ LacksMemory labels errors status))

-- ---- The output

-- The labels of lines are the pages of a document, and there is none.
abbrev pub lacks_page : ℕ → Label → ℕ → Bool
lacks_page status label count = is_drawn status && (is_document label && (count == 0))

-- The line then.
abbrev pub no_page_line : List ℕ → List ℕ
no_page_line target =
    word_line (codes "qrlabel") (codes "cannot write " ∷ []) (shown_word false target)
    (codes ": no line has a label" ∷ [])

-- A document has no page: the status is 1, and a line says so, if errors can be written.
pub record LosesPages (label : Label) (old new : SinkState) (status : ℕ) : Type 0 where
  pub document : is_document label ≡ true
  pub status_is : status ≡ 1
  pub reports : Reports old new (no_page_line label.target.now)

-- A file does not get its labels: a line says so, if errors can be written.
pub record LosesFile (path : List ℕ) (old new : SinkState) (status : ℕ) : Type 0 where
  pub silent : IsTrue old.failed → (status ≡ 1) × (new ≡ old)
  pub said : IsFalse old.failed → Fails (codes "write") path (output old new) status

-- The status stays as it is, and nothing is said.
abbrev pub Stays : (old new : SinkState) → (ran status : ℕ) → Type 0
Stays old new ran status = (status ≡ ran) × (new ≡ old)

-- What comes of a file whose labels are whole: it is finished, or does not get them.
abbrev pub Finishes : (path : List ℕ) → (old new : SinkState) → (ran status : ℕ) → Type 0
Finishes path old new ran status = Stays old new ran status ⊎ LosesFile path old new status

-- What comes after `run`: nothing, or there are labels, but not where the words ask for them.
abbrev pub Ends : Label → (target : Option (List ℕ)) → (old new : SinkState) → (ran status : ℕ) → Type 0
Ends label target old new ran status =
    Stays old new ran status
    ⊎ (IsTrue (is_drawn ran)
    × (LosesPages label old new status
    ⊎ ((path : List ℕ) × (target ≡ Some path) × LosesFile path old new status)))

-- What the words ask for was done with the input that they name, and what came after it.
pub record Delivers (values : Values) (label : Label) (target : Option (List ℕ)) (old new : SinkState)
    (status : ℕ) : Type 0 where
  pub on_terminal : Bool
  pub labels : Output
  pub between : SinkState
  pub ran : ℕ
  pub runs : RunsInput values on_terminal labels (output old between) ran
  pub ends : Ends label target between new ran status

-- The same, or the file for the labels can't be written, and nothing was drawn.
abbrev pub DeliversTo : Values → Label → (target : Option (List ℕ)) → (old new : SinkState) → ℕ → Type 0
DeliversTo values label target old new status =
    Delivers values label target old new status
    ⊎ ((path : List ℕ) × (target ≡ Some path) × Fails (codes "write") path (output old new) status)

-- ---- The process

-- The words ask for this label.
abbrev pub AskFor : Values → Label → Type 0
AskFor values label = (on_terminal : Bool) × (command_asked on_terminal values ≡ Ok (asks_label (label_of label)))

-- What the words ask for was done with the input and the output that they name.
abbrev pub Serves : Values → (old new : SinkState) → (status : ℕ) → Type 0
Serves values old new status =
    ((on_terminal : Bool) × (labels : Output)
    × RunsInput values on_terminal labels (output old new) status)
    ⊎ ((label : Label) × AskFor values label
    × DeliversTo values label (file_of values OutputName) old new status)

-- The same, and the exit status is that of what was done.
pub record Exits (values : Values) (old new : SinkState) (exit : ℕ) : Type 0 where
  pub status : ℕ
  pub serves : Serves values old new status
  pub exit_is : exit ≡ exit_status status
