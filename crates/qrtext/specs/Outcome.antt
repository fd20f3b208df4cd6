-- What `qrtext` does: what it writes, which error it returns, and its exit status. `shows` says what
-- is drawn of which bytes, and `refuses` which error comes for which bytes.
use Rattle.std.specs.Prelude.{◌≡◌, ◌≢◌, ◌+◌, ◌↔◌, ℕ, List, []}
use Rattle.std.specs.Prelude.{Result, Ok, Err, IsTrue, IsErrOf}
use Rattle.std.specs.Io.KnownBytes.{Keeps}
use Rattle.qrcode_base.specs.declared.symbols.TheConstants.{LONGEST_DATA}
use Rattle.qrcode_base.specs.declared.types.errors.QrError.{QrError}
use Rattle.qrcode_base.specs.declared.types.errors.QrError.TheVariants.{OutOfMemory}
use Rattle.programs.specs.declared.Fault.{Fault}
use Rattle.programs.specs.declared.Fault.TheVariants.{Symbol, Read, Write}
use Rattle.programs.specs.Devices.{Input, Output, ReadsEnough, ReadsWithin, Writes}
use Rattle.programs.specs.Outcome.{BeginsDrawing, WritesDrawing, error_line}

-- ---- What is written

-- The error is that of the bytes that were read.
pub record IsRefused (refuses : List ℕ → QrError → Type 0)
    (error : QrError) (input : Input) : Type 0 where
  pub bytes : List ℕ
  pub read : ReadsEnough input bytes
  pub refusal : refuses bytes error

-- What is written for an outcome. On success everything was drawn and flushed, and nothing else was
-- written. After an error of the symbol's call, or of the reader, nothing was written. After an
-- error of the writer a beginning of the drawing was written.
abbrev pub WritesOutcome : (List ℕ → List ℕ → Type 0) → (List ℕ → QrError → Type 0) →
    Input → Output → Result (Unit {0}) Fault → Type 0
WritesOutcome shows refuses input output (Ok done) = WritesDrawing shows input output
WritesOutcome shows refuses input output (Err (Symbol error)) =
    (error ≢ OutOfMemory → IsRefused refuses error input) × Keeps output.before output.after
WritesOutcome shows refuses input output (Err Read) = Keeps output.before output.after
WritesOutcome shows refuses input output (Err Write) = BeginsDrawing shows input output

-- The outcome of a drawing: what was written, and the error is `Read` exactly if reading failed,
-- and `Write` exactly if writing failed.
pub record IsOutcome (shows : List ℕ → List ℕ → Type 0) (refuses : List ℕ → QrError → Type 0)
    (input : Input) (output : Output) (outcome : Result (Unit {0}) Fault) : Type 0 where
  pub writes : WritesOutcome shows refuses input output outcome
  pub read : IsErrOf outcome Read ↔ IsTrue input.failed
  pub write : IsErrOf outcome Write ↔ IsTrue output.failed

-- ---- The exit status

-- What a program writes about an outcome: nothing after success, else the line of the error.
abbrev pub report : List ℕ → Result (Unit {0}) Fault → List ℕ
report program (Ok done) = []
report program (Err fault) = error_line program fault

-- The exit status: 0 after success, 1 after an error.
abbrev pub exit_status : Result (Unit {0}) Fault → ℕ
exit_status (Ok done) = 0
exit_status (Err fault) = 1

-- ---- What is done for the arguments

-- The arguments ask for nothing.
abbrev pub AskForNone : {R : Type 0} → (List (List ℕ) → R → Type 0) → List (List ℕ) → Type 0
AskForNone {R} asks words = (request : R) → asks words request → ⊥

-- The input was drawn, and the status and the line on the error output are those of the outcome. At
-- most one byte more was read than the longest data has.
pub record Serves (shows : List ℕ → List ℕ → Type 0) (refuses : List ℕ → QrError → Type 0)
    (program : List ℕ) (input : Input) (output errors : Output) (status : ℕ) : Type 0 where
  pub outcome : Result (Unit {0}) Fault
  pub is_outcome : IsOutcome shows refuses input output outcome
  pub within : ReadsWithin (LONGEST_DATA + 1) input
  pub status_is : status ≡ exit_status outcome
  pub reported : Writes errors (report program outcome)
