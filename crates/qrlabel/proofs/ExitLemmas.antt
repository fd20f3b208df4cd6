-- What was done with devices, and what came after it.
use Rattle.std.proofs.Common.{◌≡◌, ℕ, Bool, true, false, Option, Some, None, List, inl, inr, refl, subst, arith}
use Rattle.std.specs.Prelude.{Result, Ok, Err, IsTrue, IsFalse}
use Rattle.programs.specs.Devices.{Input, Output, SinkState, Writes, output}
use Rattle.label_words.specs.Commands.{Command, asks_help, asks_label, asks_version, command_asked}
use Rattle.label_words.specs.Misuses.{wrong_line}
use Rattle.label_words.specs.Words.{Values, Wrong, value_of, value_said}
use Rattle.label_words.specs.declared.command.Label.{Label}
use Rattle.label_words.specs.declared.words.Name.TheVariants.{Text}
use Rattle.labels.specs.FileStates.{FilesState}
use Rattle.labels.specs.Runs.{Files, Runs, is_drawn}
use Rattle.qrlabel.specs.Exits.{Delivers, Ends, Finishes, RunsInput, RunsOn, Stays, Untouched}

-- what is kept, told by less
pub runs_kept : (values : Values) (command : Result Command Wrong) (kept less : Type 0) (input : Input) (labels : Output) (files : Files) (errors : Output)
    (status : ℕ) → (kept → less) → Runs values command kept input labels files errors status → Runs values command less input labels files errors status
runs_kept values (Err wrong) kept less input labels files errors status f misused =
    record { status_is = misused.status_is; untouched = f misused.untouched; reports = misused.reports }
runs_kept values (Ok asks_help) kept less input labels files errors status f shows = shows
runs_kept values (Ok asks_version) kept less input labels files errors status f shows = shows
runs_kept values (Ok (asks_label asked)) kept less input labels files errors status f (given, is, inl drawn) = (given, is, inl drawn)
runs_kept values (Ok (asks_label asked)) kept less input labels files errors status f (given, is, inr (setting, invalid, misused)) = (
  given,
  is,
  inr (setting, invalid, record { status_is = misused.status_is; untouched = f misused.untouched; reports = misused.reports }),
)

pub runs_on : (values : Values) (on_terminal : Bool) (kept : Type 0) (input : Input) (labels : Output) (files : Files) (errors : Output) (status : ℕ) →
    (kept → Untouched input labels) → Runs values (command_asked on_terminal values) kept input labels files errors status →
    RunsOn values on_terminal input labels errors status
runs_on values on_terminal kept input labels files errors status f runs =
    record { files = files; runs = runs_kept values (command_asked on_terminal values) kept (Untouched input labels) input labels files errors status f runs }

-- an output and files of which nothing is known
abbrev pub no_labels : Output
no_labels = record { before = None; after = None; flushed = None; failed = false; reason = None }

abbrev pub no_files : FilesState
no_files = record { files = None; failed = false; reason = None }

-- wrong words: nothing was read or drawn
pub misused : (values : Values) (on_terminal : Bool) (wrong : Wrong) (errors : Output) (status : ℕ) → Err wrong ≡ command_asked on_terminal values →
    status ≡ 2 → Writes errors (wrong_line (value_said values wrong) wrong) → RunsInput values on_terminal no_labels errors status
misused values on_terminal wrong errors status is two reports =
    let nothing : Input = record { before = value_of values Text; after = value_of values Text; failed = false; reason = None } in
    let files : Files = record { old = no_files; new = no_files } in
    inl (record {
      input = nothing;
      text = λ given. refl;
      runs = record {
        files = files;
        runs = subst (λ (command : Result Command Wrong). Runs values command (Untouched nothing no_labels) nothing no_labels files errors status) is
            (record { status_is = two; untouched = (refl, refl); reports = reports });
      };
    })

-- after `run` a file is finished, or discarded
finish_ends : (label : Label) (path : List ℕ) (a c : SinkState) (ran status : ℕ) → IsTrue (is_drawn ran) → Finishes path a c ran status →
    Ends label (Some path) a c ran status
finish_ends label path a c ran status drawn (inl same) = inl same
finish_ends label path a c ran status drawn (inr lost) = inr (drawn, inr (path, refl, lost))

close_ends : (label : Label) (path : List ℕ) (a c : SinkState) (ran status : ℕ) (drawn : Bool) → is_drawn ran ≡ drawn →
    (IsFalse (is_drawn ran) → Stays a c ran status) → (IsTrue (is_drawn ran) → Finishes path a c ran status) → Ends label (Some path) a c ran status
close_ends label path a c ran status true is discarded finished = finish_ends label path a c ran status is (finished is)
close_ends label path a c ran status false is discarded finished = inl (discarded is)

pub file_ends : (label : Label) (path : List ℕ) (a b c : SinkState) (ran mid status : ℕ) → Ends label None a b ran mid →
    (IsFalse (is_drawn mid) → Stays b c mid status) → (IsTrue (is_drawn mid) → Finishes path b c mid status) → Ends label (Some path) a c ran status
file_ends label path a b c ran mid status (inl (is, same)) discarded finished =
    close_ends label path a c ran status (is_drawn ran) refl (rw (is, same) at discarded) (rw (is, same) at finished)
file_ends label path a b c ran mid status (inr (drawn, inl lost)) discarded finished =
    let stays = (rw lost.status_is at discarded) refl in
    inr (drawn, inl (record { document = lost.document; status_is = stays.0; reports = rw stays.1 lost.reports }))
file_ends label path a b c ran mid status (inr (drawn, inr (other, is, lost))) discarded finished = absurd (grind (arith, is))

pub delivers : (values : Values) (label : Label) (target : Option (List ℕ)) (on_terminal : Bool) (labels : Output) (a b c : SinkState) (ran status : ℕ) →
    RunsInput values on_terminal labels (output a b) ran → Ends label target b c ran status → Delivers values label target a c status
delivers values label target on_terminal labels a b c ran status runs ends =
    record { on_terminal = on_terminal; labels = labels; between = b; ran = ran; runs = runs; ends = ends }
