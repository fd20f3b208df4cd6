-- Which values an identifier has, as a relation beside the first fault: the joined pieces of its
-- components (GS1 General Specifications, "GS1 Application Identifier definitions").
use Rattle.std.specs.Prelude.{◌≡◌, ◌⊎◌, ◌↔◌, ℕ, ◌+◌, ◌≤◌, true, List, [], ◌∷◌, ◌++◌, length, None}
use Rattle.std.specs.List.{AllPass}
use Rattle.gs1.specs.Table.{components, characters_of, least_of, greatest_of, check_of, is_optional}
use Rattle.gs1.specs.Values.{is_allowed, check_fault, value_fault}
use Rattle.gs1.specs.declared.table.Component.{Component}

-- A piece of a component, which stands at a place of its value: it is no shorter and no longer than
-- the component, has its characters, and what else it has to satisfy.
pub record IsPiece (component : Component) (place : ℕ) (piece : List ℕ) : Type 0 where
  pub long : least_of component ≤ length piece
  pub short : length piece ≤ greatest_of component
  pub characters : AllPass (is_allowed (characters_of component)) piece
  pub satisfies : check_fault (check_of component) place piece ≡ None

-- A value, from a place on, is joined pieces, one of each component; or it ends, and the components
-- that are left are all ones that may be left out. Example: 253 with a check digit, and then up to
-- 17 characters or none.
abbrev pub AreJoined : List Component → ℕ → List ℕ → Type 0
AreJoined [] place value = value ≡ []
AreJoined (component ∷ rest) place value =
    ((is_optional component ≡ true) × (value ≡ []) × AreJoined rest place [])
    ⊎ ((piece : List ℕ) × (later : List ℕ) × (value ≡ piece ++ later) × IsPiece component place piece
    × AreJoined rest (place + length piece) later)

-- The table finds a fault in exactly the values that are no joined pieces.
abbrev pub ValuesAreJoined : Type 0
ValuesAreJoined = (number : ℕ) (value : List ℕ) →
    (value_fault (components number) 0 value ≡ None) ↔ AreJoined (components number) 0 value
