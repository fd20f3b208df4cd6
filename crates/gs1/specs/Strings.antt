-- Element strings without brackets: which a check accepts, and the first fault of the others (GS1
-- General Specifications, "Processing of data from a GS1 symbology using GS1 Application
-- Identifiers").
use Rattle.std.specs.Prelude.{◌≡◌, ◌≢◌, ◌⊎◌, ℕ, ◌&&◌, if◌then◌else◌, List, [], ◌∷◌, length}
use Rattle.std.specs.Prelude.{Some, None, is_some, is_none}
use Rattle.gs1.specs.Identifiers.{prefix, identifier_length}
use Rattle.gs1.specs.Elements.{Element, fault_of, first_fault}
use Rattle.gs1.specs.Reader.{BeginsWith, FindsOnly, behind_first}
use Rattle.gs1.specs.declared.error.Gs1Error.{Gs1Error}
use Rattle.gs1.specs.declared.error.Gs1Error.TheVariants.{NoElements, InvalidIdentifier, UnknownIdentifier}
use Rattle.gs1.specs.declared.error.Gs1Error.TheVariants.{OutOfMemory}

-- ---- The elements one after the other

-- A reader finds these elements first, and has the rest of the bytes still to read.
abbrev pub FindsBefore : List ℕ → List Element → List ℕ → Type 0
FindsBefore bytes [] rest = bytes ≡ rest
FindsBefore bytes (element ∷ elements) rest =
    BeginsWith bytes element × FindsBefore (behind_first bytes) elements rest

-- A reader finds this element after `number` others.
pub record FindsAt (bytes : List ℕ) (number : ℕ) (element : Element) : Type 0 where
  pub before : List Element
  pub rest : List ℕ
  pub found : FindsBefore bytes before rest
  pub count : length before ≡ number
  pub here : BeginsWith rest element

-- A reader finds no element after `number` others.
abbrev pub FindsNoneAt : List ℕ → ℕ → Type 0
FindsNoneAt bytes number = (element : Element) → FindsAt bytes number element → ⊥

-- ---- The check

-- A reader finds elements in the bytes, at least one, and no others; none of them has a fault.
pub record AreFaultless (bytes : List ℕ) : Type 0 where
  pub elements : List Element
  pub found : FindsOnly bytes elements
  pub some : elements ≢ []
  pub faultless : first_fault 0 elements ≡ None

-- The bytes begin with no element.
abbrev pub BeginsWithNone : List ℕ → Type 0
BeginsWithNone bytes = (element : Element) → BeginsWith bytes element → ⊥

-- Why they do not: no identifier with their first two digits is assigned; or they do not begin with
-- two digits, or with fewer bytes than the identifier has digits.
abbrev pub no_element_fault : ℕ → List ℕ → Gs1Error
no_element_fault number bytes =
    if is_some (prefix bytes) && is_none (identifier_length bytes) then UnknownIdentifier number
    else InvalidIdentifier number

-- The bytes begin with an element that has the fault, or with no element.
abbrev pub BeginsWithFault : ℕ → List ℕ → Gs1Error → Type 0
BeginsWithFault number bytes fault =
    ((element : Element) × BeginsWith bytes element × (fault_of number element ≡ Some fault))
    ⊎ (BeginsWithNone bytes × (fault ≡ no_element_fault number bytes))

-- The bytes begin with an element without a fault.
abbrev pub IsSoundFirst : ℕ → List ℕ → Type 0
IsSoundFirst number bytes =
    (element : Element) × BeginsWith bytes element × (fault_of number element ≡ None)

-- A reader finds elements without a fault first, and then bytes that begin with this fault.
pub record IsFirstFault (bytes : List ℕ) (fault : Gs1Error) : Type 0 where
  pub before : List Element
  pub rest : List ℕ
  pub found : FindsBefore bytes before rest
  pub faultless : first_fault 0 before ≡ None
  pub more : rest ≢ []
  pub here : BeginsWithFault (length before) rest fault

-- When each error is returned. No memory is asked for. Example: in `0109506000134352(10)AB` a
-- reader finds 01, and then `(10)AB`, which begins with no two digits.
abbrev pub IsRefusedString : List ℕ → Gs1Error → Type 0
IsRefusedString bytes NoElements = bytes ≡ []
IsRefusedString bytes OutOfMemory = ⊥
IsRefusedString bytes fault = IsFirstFault bytes fault

-- No bytes are both faultless and refused, and none are refused by two errors.
pub record HaveOneOutcome : Type 0 where
  pub apart : (bytes : List ℕ) (fault : Gs1Error) → AreFaultless bytes →
      IsRefusedString bytes fault → ⊥
  pub alone : (bytes : List ℕ) (first second : Gs1Error) →
      IsRefusedString bytes first → IsRefusedString bytes second → first ≡ second
