-- What is read of an input line by line, in terms of the bytes that are known before and after.
use Rattle.std.specs.Prelude.{◌≡◌, ◌≢◌, ◌⊎◌, ◌+◌, ◌≤◌, ℕ, ⊤, Option, None, Some, List, [], ◌∷◌, length, All}
use Rattle.std.specs.Io.BufRead.{first_line, drop_through}
use Rattle.std.specs.Io.KnownBytes.{Consumes}

-- The bytes begin with these lines, and `rest` comes after them. A line ends with its newline, of
-- which a carriage return before it is a part, or where the bytes end.
abbrev pub FirstLines : List ℕ → List (List ℕ) → List ℕ → Type 0
FirstLines bytes [] rest = bytes ≡ rest
FirstLines bytes (line ∷ lines) rest =
    (bytes ≢ []) × (line ≡ first_line bytes) × FirstLines (drop_through 10 bytes) lines rest

-- These lines were read, as `BufRead::lines` of std gives them.
abbrev pub ReadsLines : Option (List ℕ) → Option (List ℕ) → List (List ℕ) → Type 0
ReadsLines None after lines = ⊤
ReadsLines (Some bytes) None lines = ⊥
ReadsLines (Some bytes) (Some rest) lines = FirstLines bytes lines rest

-- Of one line these bytes were read.
pub record ReadsPart (before after : Option (List ℕ)) (part : List ℕ) : Type 0 where
  pub read : Consumes before after part
  pub in_line : All (λ byte. byte ≢ 10) part

-- Two bytes more than `most` were read of one line, whatever follows.
pub record ReadsTooMuch (most : ℕ) (before after : Option (List ℕ)) (part : List ℕ) : Type 0 where
  pub begins : ReadsPart before after part
  pub long : length part ≡ most + 2

-- This line was read, which has at most one byte more.
pub record ReadsShortLine (most : ℕ) (before after : Option (List ℕ)) (line : List ℕ) : Type 0 where
  pub read : ReadsLines before after (line ∷ [])
  pub short : length line ≤ most + 1

-- This line was read, or two bytes more of it than `most`, whatever follows.
abbrev pub ReadsLine : (most : ℕ) → Option (List ℕ) → Option (List ℕ) → List ℕ → Type 0
ReadsLine most before after line =
    ReadsShortLine most before after line ⊎ ReadsTooMuch most before after line

-- A part of one line was read, or nothing.
pub record BeginsLine (before after : Option (List ℕ)) : Type 0 where
  pub part : List ℕ
  pub begins : ReadsPart before after part
