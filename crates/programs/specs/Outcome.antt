-- What a program draws of its input, and the line of an error: `shows` says what is drawn of which
-- bytes.
use Rattle.std.specs.Prelude.{◌≡◌, ℕ, List, [], ◌∷◌, ◌++◌, codes}
use Rattle.std.specs.Io.KnownBytes.{Appends}
use Rattle.qrcode_base.specs.Names.{error_text}
use Rattle.programs.specs.declared.Fault.{Fault}
use Rattle.programs.specs.declared.Fault.TheVariants.{Symbol, Read, Write}
use Rattle.programs.specs.Devices.{Input, Output, ReadsAll, WritesBeginning}

-- ---- The text of an error

-- The text of an error.
abbrev pub fault_text : Fault → List ℕ
fault_text (Symbol error) = error_text error
fault_text Read = codes "read failed"
fault_text Write = codes "write failed"

-- The line of an error: the name of the program, the text of the error, and a newline.
abbrev pub error_line : List ℕ → Fault → List ℕ
error_line program fault = program ++ (codes ": " ++ (fault_text fault ++ 10 ∷ []))

-- ---- A drawing

-- The drawing shows all bytes that were there to be read, and nothing is left.
pub record IsDrawing (shows : List ℕ → List ℕ → Type 0) (input : Input)
    (drawing : List ℕ) : Type 0 where
  pub bytes : List ℕ
  pub read : ReadsAll input bytes
  pub shown : shows bytes drawing

-- The drawing was written, and everything that was written was flushed.
pub record WritesDrawing (shows : List ℕ → List ℕ → Type 0)
    (input : Input) (output : Output) : Type 0 where
  pub drawing : List ℕ
  pub is_drawing : IsDrawing shows input drawing
  pub appends : Appends output.before output.after drawing
  pub flushed : output.flushed ≡ output.after

-- A beginning of the drawing was written.
pub record BeginsDrawing (shows : List ℕ → List ℕ → Type 0)
    (input : Input) (output : Output) : Type 0 where
  pub drawing : List ℕ
  pub is_drawing : IsDrawing shows input drawing
  pub beginning : WritesBeginning output drawing
