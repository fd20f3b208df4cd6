-- Which elements have to stand together, and which may not (GS1 General Specifications, release 25
-- of 2025, "Mandatory associations of GS1 Application Identifiers" and "Invalid pairs of element
-- strings").
use Rattle.std.specs.Prelude.{ℕ, ◌+◌, ◌-◌, ◌*◌, ◌/◌, Bool, ◌==◌, ◌||◌, ◌&&◌, not, nat_lt}
use Rattle.std.specs.Prelude.{if◌then◌else◌, List, [], ◌∷◌, length}
use Rattle.std.specs.Prelude.{Option, None, Some, is_some}
use Rattle.std.specs.Str.{bytes_eq}
use Rattle.std.specs.List.{list_any}
use Rattle.std.specs.Option.{option_or, option_map}
use Rattle.gs1_base.specs.Characters.{is_within}
use Rattle.gs1.specs.Elements.{Element, written_elements}
use Rattle.gs1.specs.Values.{number_of_identifier}
use Rattle.gs1.specs.Table.{needed, also_needed, barred}
use Rattle.gs1.specs.declared.together.TogetherError.{TogetherError}
use Rattle.gs1.specs.declared.together.TogetherError.TheVariants.{TextTooLong, MissingElement}
use Rattle.gs1.specs.declared.together.TogetherError.TheVariants.{ConflictingElement}

-- The last digit of a measure, an amount or a price says where its decimal point stands.
abbrev pub has_point : ℕ → Bool
has_point n = is_within 3100 3699 n || is_within 3900 3959 n

-- The same measure with its decimal point elsewhere.
abbrev pub elsewhere : ℕ → List (ℕ × ℕ)
elsewhere n = (10 * (n / 10), n - 1) ∷ (n + 1, 10 * (n / 10) + 9) ∷ []

-- A number is in one of the ranges.
abbrev pub is_among : List (ℕ × ℕ) → ℕ → Bool
is_among ranges number = list_any (λ range. is_within range.0 range.1 number) ranges

-- The number of the first element whose identifier is in one of the ranges; the elements are
-- counted from `number`.
abbrev pub first_among : List (ℕ × ℕ) → ℕ → List Element → Option ℕ
first_among ranges number [] = None
first_among ranges number (e ∷ elements) =
    if is_among ranges (number_of_identifier e.identifier) then Some number
    else first_among ranges (number + 1) elements

-- Of the ranges that an element of this number and identifier needs, no element is there.
abbrev pub missing_fault : List (ℕ × ℕ) → List Element → ℕ → ℕ → Option TogetherError
missing_fault ranges all number identifier =
    if (length ranges == 0) || is_some (first_among ranges 0 all) then None
    else Some (MissingElement number identifier)

-- Of the ranges that it excludes, an element is there.
abbrev pub barred_fault : List (ℕ × ℕ) → List Element → ℕ → ℕ → Option TogetherError
barred_fault ranges all number identifier =
    option_map (λ other. ConflictingElement number identifier other) (first_among ranges 0 all)

-- The same measure with its decimal point elsewhere is there.
unfoldable pub point_fault : List Element → ℕ → ℕ → Option TogetherError
point_fault all number identifier =
    if has_point identifier then barred_fault (elsewhere identifier) all number identifier else None

-- The first fault of an element of this number and identifier among all.
abbrev pub element_conflict : List Element → ℕ → ℕ → Option TogetherError
element_conflict all number identifier =
    option_or (missing_fault (needed identifier) all number identifier)
    (option_or (missing_fault (also_needed identifier) all number identifier)
    (option_or (barred_fault (barred identifier) all number identifier)
    (point_fault all number identifier)))

-- The fault of the first element that has one; the elements are counted from `number`.
abbrev pub first_conflict : List Element → ℕ → List Element → Option TogetherError
first_conflict all number [] = None
first_conflict all number (e ∷ elements) =
    option_or (element_conflict all number (number_of_identifier e.identifier))
    (first_conflict all (number + 1) elements)

-- Another element has the identifier of this one and another value.
abbrev pub is_change : Element → Element → Bool
is_change element e =
    bytes_eq e.identifier element.identifier && not (bytes_eq e.value element.value)

-- The number of the first such element; the elements are counted from `number`.
abbrev pub change_among : Element → ℕ → List Element → Option ℕ
change_among element number [] = None
change_among element number (e ∷ elements) =
    if is_change element e then Some number else change_among element (number + 1) elements

-- The identifier of the element of this number stands once more, later, with another value.
unfoldable pub change_fault : ℕ → Element → List Element → Option TogetherError
change_fault number e later =
    option_map
    (λ place. ConflictingElement number (number_of_identifier e.identifier) (number + 1 + place))
    (change_among e 0 later)

-- The fault of the first element that has one; the elements are counted from `number`.
abbrev pub first_change : ℕ → List Element → Option TogetherError
first_change number [] = None
first_change number (e ∷ elements) =
    option_or (change_fault number e elements) (first_change (number + 1) elements)

-- The fault of a text: it is longer than any whose elements a symbol holds, an element has one, or
-- an identifier has two values. Example: a count (37) needs a logistic unit (00) and what it counts
-- (02 or 8026).
abbrev pub text_conflict : List ℕ → Option TogetherError
text_conflict text =
    if nat_lt 11815 (length text) then Some TextTooLong
    else option_or (first_conflict (written_elements text) 0 (written_elements text))
    (first_change 0 (written_elements text))
