-- Files by their names.
use Rattle.std.specs.Prelude.{◌≡◌, ℕ, ⊤, Bool, Option, None, Some, List, ◌++◌}
use Rattle.std.specs.declared.io.ErrorKind.{ErrorKind}

-- A place for files: the names and the contents of those that were written, in their order, where
-- they are known, whether writing failed, and why it did.
pub record FilesState : Type 0 where
  pub files : Option (List (List ℕ × List ℕ))
  pub failed : Bool
  pub reason : Option ErrorKind

-- These files were written.
abbrev pub AddsFiles : Option (List (List ℕ × List ℕ)) → Option (List (List ℕ × List ℕ)) →
    List (List ℕ × List ℕ) → Type 0
AddsFiles None new files = ⊤
AddsFiles (Some old) None files = ⊥
AddsFiles (Some old) (Some new) files = new ≡ old ++ files
