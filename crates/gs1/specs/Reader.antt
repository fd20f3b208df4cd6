-- What a reader of an element string finds (GS1 General Specifications, "Processing of data from a
-- GS1 symbology using GS1 Application Identifiers").
use Rattle.std.specs.Prelude.{◌≡◌, ◌≢◌, ℕ, Bool, ◌==◌, List, [], ◌∷◌, ◌++◌, length, take, drop, All}
use Rattle.std.specs.Prelude.{Option, None, Some, if◌then◌else◌, is_some}
use Rattle.std.specs.List.{slice_split, before_first, after_first, AllPass}
use Rattle.gs1.specs.Identifiers.{is_encodable, identifier_length, predefined_length}
use Rattle.gs1.specs.Elements.{Element, first_fault}

-- The separator, group separator in ASCII, as which readers give FNC1 between two elements.
abbrev pub is_group_separator : ℕ → Bool
is_group_separator c = c == 0x1d

-- The first bytes: as many as are predefined, or those before the first separator.
abbrev pub front : Option ℕ → List ℕ → List ℕ
front (Some n) bytes = take n bytes
front None bytes = before_first is_group_separator bytes

-- The bytes behind them, and behind that separator.
abbrev pub back : Option ℕ → List ℕ → List ℕ
back (Some n) bytes = drop n bytes
back None bytes = after_first is_group_separator bytes

-- The text of the first element, and the bytes behind it.
abbrev pub first_text : List ℕ → List ℕ
first_text bytes = front (predefined_length bytes) bytes

abbrev pub behind_first : List ℕ → List ℕ
behind_first bytes = back (predefined_length bytes) bytes

-- The bytes begin with an element: an identifier that has the length of those with its first two
-- digits, and a value.
pub record BeginsWith (bytes : List ℕ) (element : Element) : Type 0 where
  pub identifier_is : identifier_length bytes ≡ Some (length element.identifier)
  pub text_is : element.identifier ++ element.value ≡ first_text bytes

-- A reader finds these elements in the bytes.
abbrev pub Finds : List ℕ → List Element → Type 0
Finds bytes [] = bytes ≡ []
Finds bytes (element ∷ elements) =
    BeginsWith bytes element × Finds (behind_first bytes) elements

-- A reader finds these elements in the bytes, and no others. Example: in `10A`, 1D (hex), `217` it
-- finds 10 with A, and 21 with 7.
pub record FindsOnly (bytes : List ℕ) (elements : List Element) : Type 0 where
  pub found : Finds bytes elements
  pub only : (others : List Element) → Finds bytes others → others ≡ elements

-- Data of a symbol: cut at the separators, each part is one of characters of the set, and none is
-- empty. So there is no separator at either end, and none behind another.
abbrev pub AreSymbolData : List ℕ → Type 0
AreSymbolData bytes = All (λ part. (part ≢ []) × AllPass is_encodable part)
    (slice_split is_group_separator bytes)

-- ---- The element string

-- Behind an element, if it is not the last: a separator where no length is predefined.
abbrev pub separator_behind : List ℕ → List ℕ
separator_behind identifier = if is_some (predefined_length identifier) then [] else 0x1d ∷ []

-- The element string of elements (GS1 General Specifications, "Concatenation").
abbrev pub string_of : List Element → List ℕ
string_of [] = []
string_of (e ∷ []) = e.identifier ++ e.value
string_of (e ∷ next ∷ elements) =
    e.identifier ++ e.value ++ separator_behind e.identifier ++ string_of (next ∷ elements)

-- No two lists of elements without faults have the same element string.
abbrev pub HaveStringsApart : Type 0
HaveStringsApart = (first second : List Element) →
    first_fault 0 first ≡ None → first_fault 0 second ≡ None → string_of first ≡ string_of second →
    first ≡ second

-- No bytes are read as two lists of elements.
abbrev pub HaveOneList : Type 0
HaveOneList = (bytes : List ℕ) (first second : List Element) →
    Finds bytes first → Finds bytes second → first ≡ second
