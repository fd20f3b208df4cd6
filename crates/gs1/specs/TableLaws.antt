-- What the rows of the table satisfy, row by row: tests that are computed.
use Rattle.std.specs.Prelude.{◌≡◌, ℕ, zero, suc, ◌+◌, ◌-◌, ◌*◌, ◌/◌, Bool, true, false, ◌==◌}
use Rattle.std.specs.Prelude.{◌&&◌, ◌||◌, nat_le, nat_lt, not, if◌then◌else◌, List, [], ◌∷◌, length, map}
use Rattle.std.specs.Prelude.{is_none, unwrap_or}
use Rattle.std.specs.List.{list_all, list_any, filter}
use Rattle.gs1.specs.Identifiers.{identifier_length_of, predefined_length_of}
use Rattle.gs1.specs.declared.table.Row.{Row}
use Rattle.gs1.specs.Table.{least_of, greatest_of, first_of, last_of, parts_of, has_fnc1}
use Rattle.gs1.specs.Table.{is_key_row, first_qualifiers, second_qualifiers, needs_of}
use Rattle.gs1.specs.Table.{also_needs_of, excludes_of, primary_keys}
use Rattle.gs1.specs.Together.{is_among}
use Rattle.gs1.specs.declared.rows.TheConstants.{TABLE}
use Rattle.gs1.specs.declared.table.Component.{Component}
use Rattle.gs1.specs.declared.table.Component.TheVariants.{Needed, Optional}

-- ---- Order

-- How many digits an identifier of this number has.
abbrev pub digits_of : ℕ → ℕ
digits_of n = if nat_lt n 100 then 2 else (if nat_lt n 1000 then 3 else 4)

-- How many numbers of four digits begin with it; the first of them is its number times these.
abbrev pub room_of : ℕ → ℕ
room_of n = if nat_lt n 100 then 100 else (if nat_lt n 1000 then 10 else 1)

-- Each row begins, as a number of four digits, where those that begin with identifiers of the rows
-- before it end, at the earliest. So no identifier begins with another one or stands in two rows.
abbrev pub are_in_order : ℕ → List Row → Bool
are_in_order least [] = true
are_in_order least (row ∷ rows) =
    nat_le least (first_of row * room_of (first_of row)) && nat_le (first_of row) (last_of row)
    && (digits_of (first_of row) == digits_of (last_of row))
    && are_in_order ((last_of row + 1) * room_of (last_of row)) rows

-- ---- Lengths

-- The number that the first two digits of an identifier write.
abbrev pub prefix_of : ℕ → ℕ
prefix_of n = if nat_lt n 100 then n else (if nat_lt n 1000 then n / 10 else n / 100)

-- All of these numbers, counted from the first, pass a test.
abbrev pub all_from : (ℕ → Bool) → ℕ → ℕ → Bool
all_from test first zero = true
all_from test first (suc count) = test first && all_from test (first + 1) count

-- All identifiers of a row do.
abbrev pub all_of : (ℕ → Bool) → Row → Bool
all_of test row = all_from test (first_of row) (last_of row + 1 - first_of row)

-- An identifier has as many digits as all that begin with its first two.
abbrev pub has_digits : Row → Bool
has_digits row = all_of (λ n. unwrap_or (identifier_length_of (prefix_of n)) 0 == digits_of n) row

-- A value of these components has this length.
abbrev pub is_exact : ℕ → List Component → Bool
is_exact size [] = true
is_exact size (Needed characters least greatest check ∷ []) = (least == size) && (greatest == size)
is_exact size (Needed characters least greatest check ∷ next ∷ rest) = false
is_exact size (Optional characters least greatest check ∷ rest) = false

-- FNC1 follows the elements of an identifier, or their length is predefined, and the values have
-- the length that is left.
abbrev pub is_sized : Row → ℕ → Bool
is_sized row n =
    if has_fnc1 row then is_none (predefined_length_of (prefix_of n))
    else is_exact (unwrap_or (predefined_length_of (prefix_of n)) 0 - digits_of n) (parts_of row)

abbrev pub has_sizes : Row → Bool
has_sizes row = all_of (is_sized row) row

-- The greatest length of a value of components.
abbrev pub total : List Component → ℕ
total [] = 0
total (component ∷ rest) = greatest_of component + total rest

-- No component is always empty, and each but the last has one length, so that it is known where
-- a value is cut.
abbrev pub is_cut : Component → List Component → Bool
is_cut component rest =
    nat_lt 0 (greatest_of component)
    && ((length rest == 0) || (least_of component == greatest_of component))

abbrev pub are_cut : List Component → Bool
are_cut [] = true
are_cut (component ∷ rest) = is_cut component rest && are_cut rest

-- The values have at most 90 characters, and are cut in one way.
abbrev pub fits : List Component → Bool
fits all = nat_le (total all) 90 && are_cut all

-- ---- Other identifiers

-- A row has identifiers of a range.
abbrev pub meets : (ℕ × ℕ) → Row → Bool
meets range row = nat_le range.0 (last_of row) && nat_le (first_of row) range.1

-- A range has identifiers of the table, and none of this row.
abbrev pub is_apart : Row → (ℕ × ℕ) → Bool
is_apart row range =
    not (meets range row) && list_any (meets range) TABLE

-- A row needs and excludes other identifiers, and such as there are.
abbrev pub names_others : Row → Bool
names_others row =
    list_all (is_apart row) (needs_of row) && list_all (is_apart row) (also_needs_of row)
    && list_all (is_apart row) (excludes_of row)

-- ---- Keys

-- The qualifiers of a row are no keys.
abbrev pub is_no_key : ℕ → Bool
is_no_key n = not (is_among primary_keys n)

abbrev pub has_qualifiers : Row → Bool
has_qualifiers row =
    list_all is_no_key (first_qualifiers row) && list_all is_no_key (second_qualifiers row)

-- ---- The laws

-- No identifier of the table begins with another one, and none stands in two rows.
abbrev pub RowsAreInOrder : Type 0
RowsAreInOrder = are_in_order 0 TABLE ≡ true

-- A row has the lengths that a reader expects.
abbrev pub is_expected : Row → Bool
is_expected row = has_digits row && (has_sizes row && fits (parts_of row))

-- The lengths of identifiers and values are those that a reader of element strings expects, and
-- values have at most 90 characters.
abbrev pub RowsHaveSizes : Type 0
RowsHaveSizes = list_all is_expected TABLE ≡ true

-- The rows need and exclude others, and such as there are.
abbrev pub RowsNameOthers : Type 0
RowsNameOthers = list_all names_others TABLE ≡ true

-- The identifiers of a row as a range.
abbrev pub range_of : Row → ℕ × ℕ
range_of row = (first_of row, last_of row)

-- The primary keys are those of the rows that say so.
abbrev pub KeysAreOfRows : Type 0
KeysAreOfRows = primary_keys ≡ map range_of (filter is_key_row TABLE)

-- No qualifier of a key is a key.
abbrev pub QualifiersAreNoKeys : Type 0
QualifiersAreNoKeys = list_all has_qualifiers TABLE ≡ true
