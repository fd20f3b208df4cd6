-- Why the table of identifiers does not allow GS1 elements, or why there is no link of them, as
-- a line.
use Rattle.std.specs.Prelude.{ℕ, ◌+◌, nat_lt, List, [], ◌∷◌, codes, decimal, if◌then◌else◌}
use Rattle.gs1_links.specs.declared.link_error.LinkError.{LinkError}
use Rattle.gs1_links.specs.declared.link_error.LinkError.TheVariants.{TextTooLong, Elements, WrongDomain}
use Rattle.gs1_links.specs.declared.link_error.LinkError.TheVariants.{NoKey, SecondKey, WrongQualifier}
use Rattle.gs1_links.specs.declared.link_error.LinkError.TheVariants.{RepeatedElement, Together}
use Rattle.gs1_links.specs.declared.link_error.LinkError.TheVariants.{OutOfMemory as NoMemory}
use Rattle.gs1.specs.declared.reason.Reason.{Reason}
use Rattle.gs1.specs.declared.reason.Reason.TheVariants.{TooShort, TooLong, WrongCharacter}
use Rattle.gs1.specs.declared.reason.Reason.TheVariants.{WrongCheckDigit, WrongCheckPair}
use Rattle.gs1.specs.declared.reason.Reason.TheVariants.{NoCompanyPrefix, WrongMonth, WrongDay}
use Rattle.gs1.specs.declared.reason.Reason.TheVariants.{WrongHour, WrongMinute, WrongSecond}
use Rattle.gs1.specs.declared.reason.Reason.TheVariants.{WrongCountry, WrongCurrency, WrongFlag}
use Rattle.gs1.specs.declared.reason.Reason.TheVariants.{WrongPiece, WrongWinding, NoZero}
use Rattle.gs1.specs.declared.reason.Reason.TheVariants.{OnlyZeros, LeadingZero, WrongEscape}
use Rattle.gs1.specs.declared.reason.Reason.TheVariants.{WrongLatitude, WrongLongitude, NoMinus}
use Rattle.gs1.specs.declared.reason.Reason.TheVariants.{WrongMedia, WrongSex, WrongSequence}
use Rattle.gs1.specs.declared.reason.Reason.TheVariants.{WrongIban, WrongImporter}
use Rattle.gs1.specs.declared.refusal.CheckError.{CheckError}
use Rattle.gs1.specs.declared.refusal.CheckError.TheVariants.{NoElements, InvalidIdentifier}
use Rattle.gs1.specs.declared.refusal.CheckError.TheVariants.{UnknownIdentifier, WrongValue, OutOfMemory}
use Rattle.gs1.specs.declared.together.TogetherError.{TogetherError}
use Rattle.gs1.specs.declared.together.TogetherError.TheVariants.{MissingElement, ConflictingElement}
use Rattle.gs1.specs.declared.together.TogetherError.TheVariants.{TextTooLong as LongText}
use Rattle.labels.specs.Pieces.{line_of, counted_from_one, letter_text}

-- What is wrong with a value.
abbrev pub value_reason_text : Reason → List ℕ
value_reason_text TooShort = codes "the value is too short"
value_reason_text TooLong = codes "the value is too long"
value_reason_text (WrongCharacter byte) = codes "a character that is not allowed there"
value_reason_text (WrongCheckDigit right) = codes "wrong check digit"
value_reason_text (WrongCheckPair first second) = codes "wrong pair of check characters"
value_reason_text NoCompanyPrefix = codes "the key begins with no GS1 Company Prefix"
value_reason_text WrongMonth = codes "no such month"
value_reason_text WrongDay = codes "no such day"
value_reason_text WrongHour = codes "no such hour"
value_reason_text WrongMinute = codes "no such minute"
value_reason_text WrongSecond = codes "no such second"
value_reason_text WrongCountry = codes "no such country"
value_reason_text WrongCurrency = codes "no such currency"
value_reason_text WrongFlag = codes "neither 0 nor 1"
value_reason_text WrongPiece = codes "no piece of this total"
value_reason_text WrongWinding = codes "no direction of winding"
value_reason_text NoZero = codes "not zero"
value_reason_text OnlyZeros = codes "only zeros"
value_reason_text LeadingZero = codes "a zero before other digits"
value_reason_text WrongEscape = codes "a percent sign without two hexadecimal digits"
value_reason_text WrongLatitude = codes "no such latitude"
value_reason_text WrongLongitude = codes "no such longitude"
value_reason_text NoMinus = codes "not a minus sign"
value_reason_text WrongMedia = codes "no such media type"
value_reason_text WrongSex = codes "no such sex"
value_reason_text WrongSequence = codes "no place in a sequence"
value_reason_text WrongIban = codes "wrong bank account number"
value_reason_text WrongImporter = codes "no importer index"

-- What stands before the check digit or the pair of check characters that would be right.
abbrev pub would_be_text : Reason → List ℕ
would_be_text (WrongCheckDigit right) = codes "; the check digit would be "
would_be_text (WrongCheckPair first second) = codes "; the pair would be "
would_be_text reason = []

-- The check digit or the pair in ASCII, and 0 for what it has not.
abbrev pub right_bytes : Reason → ℕ × ℕ
right_bytes (WrongCheckDigit right) = ((if nat_lt right 10 then 48 + right else 0), 0)
right_bytes (WrongCheckPair first second) = (first, second)
right_bytes reason = (0, 0)

-- What stands before the number of an identifier, which has two digits at least.
abbrev pub opening_text : ℕ → List ℕ
opening_text identifier = if nat_lt identifier 10 then codes "(0" else codes "("

-- The line of an element by its identifier and its number, and what is wrong with it.
abbrev pub element_fault_line : List ℕ → (element identifier : ℕ) → List ℕ → List ℕ
element_fault_line name element identifier text =
    line_of name (opening_text identifier ∷ decimal identifier ∷ codes "), element "
    ∷ decimal (counted_from_one element) ∷ text ∷ [])

-- The line of elements that the table does not allow: the element by its identifier and its number,
-- the character of its value, both counted from 1, what is wrong, and what would be right. Example:
-- `(17), element 1, character 3: no such month`.
unfoldable pub refusal_line : List ℕ → CheckError → List ℕ
refusal_line name NoElements = line_of name (codes "no elements, which are written as in (01)09506000134352" ∷ [])
refusal_line name (InvalidIdentifier element) =
    line_of name (codes "element " ∷ decimal (counted_from_one element)
    ∷ codes ": the identifier is cut short, or not two to four digits" ∷ [])
refusal_line name (UnknownIdentifier element identifier) =
    element_fault_line name element identifier (codes ": unknown identifier")
refusal_line name (WrongValue element identifier place reason) =
    line_of name (opening_text identifier ∷ decimal identifier ∷ codes "), element "
    ∷ decimal (counted_from_one element) ∷ codes ", character " ∷ decimal (counted_from_one place) ∷ codes ": "
    ∷ value_reason_text reason
    ∷ would_be_text reason ∷ letter_text (right_bytes reason).0 ∷ letter_text (right_bytes reason).1 ∷ [])
refusal_line name OutOfMemory = line_of name (codes "out of memory" ∷ [])

-- The line of elements that may not stand together. Example: `(37), element 2: an element that has
-- to stand beside it is missing`.
abbrev pub apart_line : List ℕ → TogetherError → List ℕ
apart_line name LongText = line_of name (codes "more than 11815 bytes of elements" ∷ [])
apart_line name (MissingElement element identifier) =
    element_fault_line name element identifier (codes ": an element that has to stand beside it is missing")
apart_line name (ConflictingElement element identifier other) =
    line_of name (opening_text identifier ∷ decimal identifier ∷ codes "), element "
    ∷ decimal (counted_from_one element) ∷ codes ": element " ∷ decimal (counted_from_one other)
    ∷ codes " may not stand beside it" ∷ [])

-- The line of elements of which there is no link.
unfoldable pub no_link_line : List ℕ → LinkError → List ℕ
no_link_line name TextTooLong = line_of name (codes "more than 11815 bytes of elements" ∷ [])
no_link_line name (Elements error) = refusal_line name error
no_link_line name WrongDomain =
    line_of name (codes "the domain of a link is a host name, or with a port or a path" ∷ [])
no_link_line name NoKey =
    line_of name (codes "no element is the key of a link, as (01), (00) or (414) are" ∷ [])
no_link_line name (SecondKey element) =
    line_of name (codes "element " ∷ decimal (counted_from_one element)
    ∷ codes ": a link has one key, and there is another after this one" ∷ [])
no_link_line name (WrongQualifier element identifier) =
    element_fault_line name element identifier (codes ": may not stand beside another qualifier of the link's key")
no_link_line name (RepeatedElement element identifier) =
    element_fault_line name element identifier (codes ": the identifier stands once more after it")
no_link_line name (Together error) = apart_line name error
no_link_line name NoMemory = line_of name (codes "out of memory" ∷ [])
