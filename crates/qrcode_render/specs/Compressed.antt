-- The compressed data of a graphic field, and a reader of them (Zebra, "ZPL II Programming Guide":
-- "Alternative Data Compression Scheme").
use Rattle.std.specs.Prelude.{◌≡◌, ◌≤◌, ℕ, ◌+◌, ◌-◌, ◌*◌, max, nat_lt, nat_le, ◌==◌}
use Rattle.std.specs.Prelude.{Bool, ◌&&◌, ◌||◌, List, [], ◌++◌, length, replicate, fold}
use Rattle.std.specs.Prelude.{Option, Some, None, option_and_then, if◌then◌else◌}

-- What a letter adds to the repeat count of the digit after it: G to Y are 1 to 19, and g to z are
-- 20, 40, up to 400. Other characters add nothing.
abbrev pub repeat_count : ℕ → ℕ
repeat_count c =
    if nat_le 71 c && nat_le c 89 then c - 70 else
    (if nat_le 103 c && nat_le c 122 then 20 * (c - 102) else 0)

-- A hexadecimal digit: 0 to 9, or A to F.
abbrev pub is_hex_digit : ℕ → Bool
is_hex_digit c = (nat_le 48 c && nat_le c 57) || (nat_le 65 c && nat_le c 70)

-- What a reader has found: the digits of whole rows, those of the row above, those of the row that
-- it is in, and the repeat count of the next digit, or 0.
pub record FieldReader : Type 0 where
  pub rows : List ℕ
  pub above : List ℕ
  pub row : List ℕ
  pub count : ℕ

-- A reader before the first character.
abbrev pub nothing : FieldReader
nothing = record { rows = []; above = []; row = []; count = 0 }

-- A reader within a row.
abbrev pub in_row : FieldReader → List ℕ → FieldReader
in_row r row = record { rows = r.rows; above = r.above; row = row; count = 0 }

-- A reader after a whole row.
abbrev pub after_row : FieldReader → List ℕ → FieldReader
after_row r row = record { rows = r.rows ++ row; above = row; row = []; count = 0 }

-- A reader that finds more digits of a row. A row ends at its width, and no digit is beyond it.
unfoldable pub with_digits : (width : ℕ) → FieldReader → List ℕ → Option FieldReader
with_digits width r digits =
    if nat_lt (length (r.row ++ digits)) width then Some (in_row r (r.row ++ digits)) else
    (if length (r.row ++ digits) == width then Some (after_row r (r.row ++ digits)) else None)

-- A reader that finds what fills the row up with one digit. There is no repeat count before it.
unfoldable pub filled_up : (width : ℕ) → FieldReader → (digit : ℕ) → Option FieldReader
filled_up width r digit =
    if r.count == 0 then with_digits width r (replicate (width - length r.row) digit) else None

-- A reader that finds the row above once more, at the start of a row, with no repeat count
-- before it.
unfoldable pub row_again : (width : ℕ) → FieldReader → Option FieldReader
row_again width r =
    if (r.count == 0) && ((length r.row == 0) && nat_lt 0 (length r.above))
    then with_digits width r r.above else None

-- A reader after one character more: a letter of a repeat count, a digit, a comma (zeros), an
-- exclamation mark (ones), or a colon (the row above).
unfoldable pub read_field_character : (width : ℕ) → FieldReader → ℕ → Option FieldReader
read_field_character width r c =
    if nat_lt 0 (repeat_count c) then Some (record r { count = r.count + repeat_count c }) else
    (if is_hex_digit c then with_digits width r (replicate (max 1 r.count) c) else
    (if c == 44 then filled_up width r 48 else
    (if c == 33 then filled_up width r 70 else
    (if c == 58 then row_again width r else None))))

-- The same, if the characters before were read.
abbrev pub read_next : (width : ℕ) → Option FieldReader → ℕ → Option FieldReader
read_next width None c = None
read_next width (Some r) c = read_field_character width r c

-- A reader after some characters.
abbrev pub read_field_characters : (width : ℕ) → Option FieldReader → List ℕ → Option FieldReader
read_field_characters width r characters = fold (read_next width) r characters

-- The digits of whole rows, if nothing is left over.
abbrev pub whole_rows : FieldReader → Option (List ℕ)
whole_rows r = if (length r.row == 0) && (r.count == 0) then Some r.rows else None

-- The digits that a reader finds in compressed data, in rows of this many digits.
unfoldable pub expanded : (width : ℕ) → List ℕ → Option (List ℕ)
expanded width characters =
    option_and_then whole_rows (read_field_characters width (Some nothing) characters)

-- The compressed form of some digits: a reader finds exactly these, and it is no longer than
-- they are.
pub record Compresses (width : ℕ) (digits characters : List ℕ) : Type 0 where
  pub read : expanded width characters ≡ Some digits
  pub short : length characters ≤ length digits
