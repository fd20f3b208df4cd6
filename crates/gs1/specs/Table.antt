-- The table of GS1 Application Identifiers as it is read: the row of an identifier, and what the
-- row has. The rows are data, in the order of the GS1 General Specifications, release 25 of 2025
-- ("GS1 Application Identifiers in numerical order", "Mandatory associations of GS1 Application
-- Identifiers" and "Invalid pairs of element strings").
use Rattle.std.specs.Prelude.{ℕ, Bool, true, false, if◌then◌else◌, List, [], ◌∷◌, Option}
use Rattle.std.specs.Prelude.{None, Some}
use Rattle.std.specs.List.{find}
use Rattle.gs1_base.specs.Characters.{is_within}
use Rattle.gs1.specs.declared.rows.TheConstants.{TABLE, KEYS}
use Rattle.gs1.specs.declared.table.Characters.{Characters}
use Rattle.gs1.specs.declared.table.Check.{Check}
use Rattle.gs1.specs.declared.table.Component.{Component}
use Rattle.gs1.specs.declared.table.Component.TheVariants.{Needed, Optional}
use Rattle.gs1.specs.declared.table.Numbers.{Numbers}
use Rattle.gs1.specs.declared.table.Numbers.TheVariants.{NoNumber, OneNumber, ThreeNumbers}
use Rattle.gs1.specs.declared.table.Parts.{Parts}
use Rattle.gs1.specs.declared.table.Parts.TheVariants.{OnePart, TwoParts, ThreeParts, FourParts}
use Rattle.gs1.specs.declared.table.Parts.TheVariants.{FiveParts}
use Rattle.gs1.specs.declared.table.Ranges.{Ranges}
use Rattle.gs1.specs.declared.table.Ranges.TheVariants.{NoRange, OneRange, TwoRanges, ThreeRanges}
use Rattle.gs1.specs.declared.table.Ranges.TheVariants.{FourRanges, FiveRanges, SevenRanges}
use Rattle.gs1.specs.declared.table.Row.{Row}

-- The parts of a component: its characters, least and greatest length and check.
abbrev pub characters_of : Component → Characters
characters_of (Needed characters least greatest check) = characters
characters_of (Optional characters least greatest check) = characters

abbrev pub least_of : Component → ℕ
least_of (Needed characters least greatest check) = least
least_of (Optional characters least greatest check) = least

abbrev pub greatest_of : Component → ℕ
greatest_of (Needed characters least greatest check) = greatest
greatest_of (Optional characters least greatest check) = greatest

abbrev pub check_of : Component → Check
check_of (Needed characters least greatest check) = check
check_of (Optional characters least greatest check) = check

-- It may be left out.
abbrev pub is_optional : Component → Bool
is_optional (Needed characters least greatest check) = false
is_optional (Optional characters least greatest check) = true

-- ---- Rows

-- The components of a row, its ranges of identifiers, and identifiers in an order.
abbrev pub listed_parts : Parts → List Component
listed_parts (OnePart a) = a ∷ []
listed_parts (TwoParts a b) = a ∷ b ∷ []
listed_parts (ThreeParts a b c) = a ∷ b ∷ c ∷ []
listed_parts (FourParts a b c d) = a ∷ b ∷ c ∷ d ∷ []
listed_parts (FiveParts a b c d e) = a ∷ b ∷ c ∷ d ∷ e ∷ []

abbrev pub listed_ranges : Ranges → List (ℕ × ℕ)
listed_ranges NoRange = []
listed_ranges (OneRange a) = a ∷ []
listed_ranges (TwoRanges a b) = a ∷ b ∷ []
listed_ranges (ThreeRanges a b c) = a ∷ b ∷ c ∷ []
listed_ranges (FourRanges a b c d) = a ∷ b ∷ c ∷ d ∷ []
listed_ranges (FiveRanges a b c d e) = a ∷ b ∷ c ∷ d ∷ e ∷ []
listed_ranges (SevenRanges a b c d e f g) = a ∷ b ∷ c ∷ d ∷ e ∷ f ∷ g ∷ []

abbrev pub listed_numbers : Numbers → List ℕ
listed_numbers NoNumber = []
listed_numbers (OneNumber numbers) = numbers
listed_numbers (ThreeNumbers numbers) = numbers

abbrev pub first_of : Row → ℕ
first_of row = row.first

abbrev pub last_of : Row → ℕ
last_of row = row.last

abbrev pub parts_of : Row → List Component
parts_of row = listed_parts row.parts

abbrev pub has_fnc1 : Row → Bool
has_fnc1 row = row.fnc1

abbrev pub is_key_row : Row → Bool
is_key_row row = row.key

abbrev pub first_qualifiers : Row → List ℕ
first_qualifiers row = listed_numbers row.qualifiers

abbrev pub second_qualifiers : Row → List ℕ
second_qualifiers row = listed_numbers row.other_qualifiers

abbrev pub needs_of : Row → List (ℕ × ℕ)
needs_of row = listed_ranges row.needs

abbrev pub also_needs_of : Row → List (ℕ × ℕ)
also_needs_of row = listed_ranges row.also_needs

abbrev pub excludes_of : Row → List (ℕ × ℕ)
excludes_of row = listed_ranges row.excludes

-- A row is that of an identifier, which is given as a number.
abbrev pub is_row_of : ℕ → Row → Bool
is_row_of n row = is_within (first_of row) (last_of row) n

-- The row of an identifier. One without a row is not assigned.
unfoldable pub row_of : ℕ → Option Row
row_of n = find (is_row_of n) TABLE

-- ---- What a row has

abbrev pub parts_in : Option Row → List Component
parts_in None = []
parts_in (Some row) = parts_of row

abbrev pub needs_in : Option Row → List (ℕ × ℕ)
needs_in None = []
needs_in (Some row) = needs_of row

abbrev pub also_needs_in : Option Row → List (ℕ × ℕ)
also_needs_in None = []
also_needs_in (Some row) = also_needs_of row

abbrev pub excludes_in : Option Row → List (ℕ × ℕ)
excludes_in None = []
excludes_in (Some row) = excludes_of row

-- The components of the values of an identifier. Example: of 8003 a zero, 13 digits of which the
-- last is the check digit, and up to 16 characters that may be left out.
unfoldable pub components : ℕ → List Component
components n = parts_in (row_of n)

-- One of these has to stand beside an identifier, if there are any.
unfoldable pub needed : ℕ → List (ℕ × ℕ)
needed n = needs_in (row_of n)

-- And one of these.
unfoldable pub also_needed : ℕ → List (ℕ × ℕ)
also_needed n = also_needs_in (row_of n)

-- None of these may.
unfoldable pub barred : ℕ → List (ℕ × ℕ)
barred n = excludes_in (row_of n)

-- ---- Links

-- The primary keys, as ranges (GS1 Digital Link Standard: URI Syntax, release 1.4, "Primary
-- identification keys").
abbrev pub primary_keys : List (ℕ × ℕ)
primary_keys = KEYS

abbrev pub qualifiers_in : Option Row → Bool → List ℕ
qualifiers_in None second = []
qualifiers_in (Some row) second =
    if second then second_qualifiers row else first_qualifiers row

-- The qualifiers of a key in the order of the path ("Key qualifiers"). Some keys have two sets of
-- them, of which a link has one.
unfoldable pub qualifiers_of : ℕ → Bool → List ℕ
qualifiers_of key second = qualifiers_in (row_of key) second
