-- What characters of compressed data say to a reader that comes to them.
use Rattle.std.specs.Prelude.{◌≡◌, ℕ, zero, suc, ◌+◌, ◌-◌, ◌<◌, ◌≤◌, List, [], ◌++◌, length, Some}
use Rattle.qrcode_render.specs.Compressed.{FieldReader, after_row, nothing}
use Rattle.qrcode_render.specs.Compressed.{read_field_characters, with_digits}

-- Some characters were added, and this holds of them.
pub record AddsPiece (P : List ℕ → Type 0) (old new : List ℕ) : Type 0 where
  pub added : List ℕ
  pub is : new ≡ old ++ added
  pub holds : P added

-- This number of pieces of a list, one after the other, and what holds of each by its number.
abbrev pub ArePieces : (P : ℕ → List ℕ → Type 0) → (count : ℕ) → List ℕ → Type 0
ArePieces P zero pieces = pieces ≡ []
ArePieces P (suc n) pieces =
    (before : List ℕ) × ArePieces P n before × AddsPiece (P n) before pieces

-- The letters of a repeat count. With the digit they are no more than the digits.
pub record SaysCount (count : ℕ) (letters : List ℕ) : Type 0 where
  pub read : (width : ℕ) (r : FieldReader) →
      read_field_characters width (Some r) letters ≡ Some (record r { count = r.count + count })
  pub short : length letters ≤ count - 1

-- Digits of a row, at any place where they fit.
pub record SaysDigits (digits characters : List ℕ) : Type 0 where
  pub read : (width : ℕ) (r : FieldReader) → r.count ≡ 0 → length r.row < width →
      length r.row + length digits ≤ width →
      read_field_characters width (Some r) characters ≡ with_digits width r digits
  pub short : length characters ≤ length digits

-- The last digits of a row.
pub record EndsRow (digits characters : List ℕ) : Type 0 where
  pub read : (width : ℕ) (r : FieldReader) → r.count ≡ 0 → length r.row < width →
      length r.row + length digits ≡ width →
      read_field_characters width (Some r) characters ≡ with_digits width r digits
  pub short : length characters ≤ length digits

-- A whole row, after this one above.
pub record SaysRow (above row characters : List ℕ) : Type 0 where
  pub read : (r : FieldReader) → r.count ≡ 0 → r.row ≡ [] → r.above ≡ above →
      read_field_characters (length row) (Some r) characters ≡ Some (after_row r row)
  pub short : length characters ≤ length row

-- All rows from the first of a field on, the last of which is this one above.
pub record SaysRows (width : ℕ) (rows above characters : List ℕ) : Type 0 where
  pub read : read_field_characters width (Some nothing) characters
      ≡ Some (record { rows = rows; above = above; row = []; count = 0 })
  pub short : length characters ≤ length rows
