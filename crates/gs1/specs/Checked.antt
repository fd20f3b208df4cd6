-- Element strings without brackets, by the table: which a check accepts, and the first fault of
-- the others.
use Rattle.std.specs.Prelude.{◌≡◌, ◌≢◌, ◌⊎◌, ℕ, ◌&&◌, if◌then◌else◌, List, [], length}
use Rattle.std.specs.Prelude.{Some, None, is_some, is_none}
use Rattle.gs1.specs.Identifiers.{prefix, identifier_length}
use Rattle.gs1.specs.Checks.{two_digits}
use Rattle.gs1.specs.Elements.{Element}
use Rattle.gs1.specs.Reader.{BeginsWith, FindsOnly}
use Rattle.gs1.specs.Strings.{FindsBefore, BeginsWithNone}
use Rattle.gs1.specs.Values.{element_error, first_error}
use Rattle.gs1.specs.declared.refusal.CheckError.{CheckError}
use Rattle.gs1.specs.declared.refusal.CheckError.TheVariants.{NoElements, InvalidIdentifier}
use Rattle.gs1.specs.declared.refusal.CheckError.TheVariants.{UnknownIdentifier, OutOfMemory}

-- A reader finds elements in the bytes, at least one, and no others; the table allows each of them.
pub record AreAllowedElements (bytes : List ℕ) : Type 0 where
  pub elements : List Element
  pub found : FindsOnly bytes elements
  pub some : elements ≢ []
  pub allowed : first_error 0 elements ≡ None

-- Why bytes begin with no element: no identifier with their first two digits is assigned; or they
-- do not begin with two digits, or with fewer bytes than the identifier has digits.
abbrev pub no_element_error : ℕ → List ℕ → CheckError
no_element_error number bytes =
    if is_some (prefix bytes) && is_none (identifier_length bytes)
    then UnknownIdentifier number (two_digits bytes 0) else InvalidIdentifier number

-- The bytes begin with an element that has the fault, or with no element.
abbrev pub BeginsWithError : ℕ → List ℕ → CheckError → Type 0
BeginsWithError number bytes error =
    ((element : Element) × BeginsWith bytes element × (element_error number element ≡ Some error))
    ⊎ (BeginsWithNone bytes × (error ≡ no_element_error number bytes))

-- The bytes begin with an element that the table allows.
abbrev pub IsAllowedFirst : ℕ → List ℕ → Type 0
IsAllowedFirst number bytes =
    (element : Element) × BeginsWith bytes element × (element_error number element ≡ None)

-- A reader finds elements that the table allows first, and then bytes that begin with this fault.
pub record IsFirstError (bytes : List ℕ) (error : CheckError) : Type 0 where
  pub before : List Element
  pub rest : List ℕ
  pub found : FindsBefore bytes before rest
  pub allowed : first_error 0 before ≡ None
  pub more : rest ≢ []
  pub here : BeginsWithError (length before) rest error

-- When each error is returned. No memory is asked for.
abbrev pub IsRefusedStringByTable : List ℕ → CheckError → Type 0
IsRefusedStringByTable bytes NoElements = bytes ≡ []
IsRefusedStringByTable bytes OutOfMemory = ⊥
IsRefusedStringByTable bytes error = IsFirstError bytes error
