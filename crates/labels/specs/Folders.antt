-- Files with a label each.
use Rattle.std.specs.Prelude.{◌≡◌, ◌⊎◌, ℕ, ◌+◌, ◌<◌, List, [], ◌∷◌, length, take, Ok, Err, IsTrue, IsFalse}
use Rattle.programs.specs.declared.Fault.TheVariants.{Symbol, Write}
use Rattle.qrcode_core.specs.declared.types.errors.QrError.TheVariants.{OutOfMemory}
use Rattle.programs.specs.Devices.{Output, Writes}
use Rattle.labels.specs.Lines.{Made, Place, left_out}
use Rattle.label_words.specs.Names.{Numbering, numbered}
use Rattle.labels.specs.FileStates.{FilesState, AddsFiles}
use Rattle.single_label.specs.declared.stop.Stop.{Stop}
use Rattle.single_label.specs.declared.stop.Stop.TheVariants.{Fault}

-- Each label in the file that has the number of its line, from this number on.
abbrev pub files_of : Numbering → ℕ → List Made → List (List ℕ × List ℕ)
files_of name n [] = []
files_of name n (Ok drawing ∷ results) = (numbered name n, drawing) ∷ files_of name (n + 1) results
files_of name n (Err stop ∷ results) = files_of name (n + 1) results

-- Each drawing in the file that has its number, from this number on.
abbrev pub part_files : Numbering → ℕ → List (List ℕ) → List (List ℕ × List ℕ)
part_files name n [] = []
part_files name n (drawing ∷ drawings) = (numbered name n, drawing) ∷ part_files name (n + 1) drawings

-- Files of the first of some drawings were written, and the next was not. The path is its name, if
-- writing failed.
pub record PutsSome (name : Numbering) (drawings : List (List ℕ)) (old new : FilesState) (stop : Stop)
    (path : List ℕ) : Type 0 where
  pub count : ℕ
  pub some_left : count < length drawings
  pub added : AddsFiles old.files new.files (part_files name 1 (take count drawings))
  pub why :
      ((stop ≡ Fault Write) × IsTrue new.failed × (path ≡ numbered name (count + 1)))
      ⊎ ((stop ≡ Fault (Symbol OutOfMemory)) × IsFalse new.failed)

-- A file for each label.
abbrev pub folder : FilesState → FilesState → ℕ → Numbering → Output → Place
folder old new first name errors = record {
  whole = λ results.
      AddsFiles old.files new.files (files_of name first results) × Writes errors (left_out first results);
  ended = λ results.
      AddsFiles old.files new.files (files_of name first results) × Writes errors (left_out first results);
  broken = λ results next.
      AddsFiles old.files new.files (files_of name first results) × Writes errors (left_out first results);
  full = λ results next. ⊥;
  torn = λ results. ⊥;
  failed = new.failed;
  reason = new.reason;
}
