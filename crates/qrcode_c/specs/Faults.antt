-- The errors of GS1 elements for a caller in C, and where the element is that has one.
use Rattle.std.specs.Prelude.{◌≡◌, ℕ, ℤ, pos, negsuc, ◌+◌, ◌-◌, ◌^◌, ◌==◌, min, nat_lt, Option, None}
use Rattle.std.specs.Prelude.{Some, if◌then◌else◌}
use Rattle.gs1.specs.declared.error.Gs1Error.{Gs1Error}
use Rattle.gs1.specs.declared.error.Gs1Error.TheVariants as fault
use Rattle.gs1_links.specs.declared.link_error.LinkError.{LinkError}
use Rattle.gs1_links.specs.declared.link_error.LinkError.TheVariants as link
use Rattle.gs1.specs.declared.reason.Reason.{Reason}
use Rattle.gs1.specs.declared.reason.Reason.TheVariants as reason
use Rattle.gs1.specs.declared.refusal.CheckError.{CheckError}
use Rattle.gs1.specs.declared.refusal.CheckError.TheVariants as table
use Rattle.gs1.specs.declared.together.TogetherError.{TogetherError}
use Rattle.gs1.specs.declared.together.TogetherError.TheVariants as together
use Rattle.qrcode_c.specs.declared.faults.ElementFault.{ElementFault}
use Rattle.qrcode_c.specs.declared.refusal.Refusal.{Refusal}
use Rattle.qrcode_c.specs.declared.refusal.Refusal.TheVariants.{DataTooLong, OutOfMemory}
use Rattle.qrcode_c.specs.declared.refusal.Refusal.TheVariants.{InvalidCharacter, NoElements}
use Rattle.qrcode_c.specs.declared.refusal.Refusal.TheVariants.{InvalidIdentifier}
use Rattle.qrcode_c.specs.declared.refusal.Refusal.TheVariants.{UnknownIdentifier, EmptyValue}
use Rattle.qrcode_c.specs.declared.refusal.Refusal.TheVariants.{ValueTooLong, WrongLength}
use Rattle.qrcode_c.specs.declared.refusal.Refusal.TheVariants.{WrongCheckDigit, WrongValue}
use Rattle.qrcode_c.specs.declared.refusal.Refusal.TheVariants.{WrongDomain, NoKey, SecondKey}
use Rattle.qrcode_c.specs.declared.refusal.Refusal.TheVariants.{WrongQualifier, RepeatedElement}
use Rattle.qrcode_c.specs.declared.refusal.Refusal.TheVariants.{MissingElement, ConflictingElement}

-- ---- The errors

-- The error that tells a fault of a text, which is tested for what a reader needs.
abbrev pub refusal_for : Gs1Error → Refusal
refusal_for (fault.NoElements) = NoElements
refusal_for (fault.InvalidIdentifier element) = InvalidIdentifier
refusal_for (fault.UnknownIdentifier element) = UnknownIdentifier
refusal_for (fault.EmptyValue element) = EmptyValue
refusal_for (fault.ValueTooLong element) = ValueTooLong
refusal_for (fault.InvalidCharacter element position byte) = InvalidCharacter
refusal_for (fault.WrongLength element) = WrongLength
refusal_for (fault.WrongCheckDigit element) = WrongCheckDigit
refusal_for (fault.OutOfMemory) = OutOfMemory

-- The error that tells a fault at a place of a value. A value that ends at its first character
-- is empty.
abbrev pub value_refusal : ℕ → Reason → Refusal
value_refusal place (reason.TooShort) = if place == 0 then EmptyValue else WrongLength
value_refusal place (reason.TooLong) = ValueTooLong
value_refusal place (reason.WrongCharacter byte) = InvalidCharacter
value_refusal place (reason.WrongCheckDigit right) = WrongCheckDigit
value_refusal place (reason.WrongCheckPair first second) = WrongCheckDigit
value_refusal place other = WrongValue

-- The error that tells a fault of a text, which is tested by the table of identifiers.
abbrev pub table_refusal : CheckError → Refusal
table_refusal (table.NoElements) = NoElements
table_refusal (table.InvalidIdentifier element) = InvalidIdentifier
table_refusal (table.UnknownIdentifier element identifier) = UnknownIdentifier
table_refusal (table.WrongValue element identifier place why) = value_refusal place why
table_refusal (table.OutOfMemory) = OutOfMemory

-- The error that tells why elements may not stand together.
abbrev pub together_refusal : TogetherError → Refusal
together_refusal (together.TextTooLong) = DataTooLong
together_refusal (together.MissingElement element identifier) = MissingElement
together_refusal (together.ConflictingElement element identifier other) = ConflictingElement

-- The error that tells why there is no link.
abbrev pub link_refusal : LinkError → Refusal
link_refusal (link.TextTooLong) = DataTooLong
link_refusal (link.Elements error) = table_refusal error
link_refusal (link.WrongDomain) = WrongDomain
link_refusal (link.NoKey) = NoKey
link_refusal (link.SecondKey element) = SecondKey
link_refusal (link.WrongQualifier element identifier) = WrongQualifier
link_refusal (link.RepeatedElement element identifier) = RepeatedElement
link_refusal (link.Together error) = together_refusal error
link_refusal (link.OutOfMemory) = OutOfMemory

-- When each error of a first fault is returned: out of memory only where there is none.
abbrev pub IsFaultRefusal : Option Refusal → Refusal → Type 0
IsFaultRefusal first OutOfMemory = first ≡ None
IsFaultRefusal first refusal = first ≡ Some refusal

-- ---- The places

-- A number counted from 1 that is counted from 0, as far as 64 bits go.
abbrev pub counted : ℕ → ℕ
counted n = min (n + 1) (2 ^ 64 - 1)

-- The number of an identifier for C, which has at most four digits.
abbrev pub identifier_argument : ℕ → ℤ
identifier_argument n = if nat_lt n 10000 then pos n else negsuc 0

-- The number of a reason for the border in C, which has its text.
abbrev pub reason_argument : Reason → ℤ
reason_argument (reason.TooShort) = pos 1
reason_argument (reason.TooLong) = pos 2
reason_argument (reason.WrongCharacter byte) = pos 3
reason_argument (reason.WrongCheckDigit right) = pos 4
reason_argument (reason.WrongCheckPair first second) = pos 5
reason_argument (reason.NoCompanyPrefix) = pos 6
reason_argument (reason.WrongMonth) = pos 7
reason_argument (reason.WrongDay) = pos 8
reason_argument (reason.WrongHour) = pos 9
reason_argument (reason.WrongMinute) = pos 10
reason_argument (reason.WrongSecond) = pos 11
reason_argument (reason.WrongCountry) = pos 12
reason_argument (reason.WrongCurrency) = pos 13
reason_argument (reason.WrongFlag) = pos 14
reason_argument (reason.WrongPiece) = pos 15
reason_argument (reason.WrongWinding) = pos 16
reason_argument (reason.NoZero) = pos 17
reason_argument (reason.OnlyZeros) = pos 18
reason_argument (reason.LeadingZero) = pos 19
reason_argument (reason.WrongEscape) = pos 20
reason_argument (reason.WrongLatitude) = pos 21
reason_argument (reason.WrongLongitude) = pos 22
reason_argument (reason.NoMinus) = pos 23
reason_argument (reason.WrongMedia) = pos 24
reason_argument (reason.WrongSex) = pos 25
reason_argument (reason.WrongSequence) = pos 26
reason_argument (reason.WrongIban) = pos 27
reason_argument (reason.WrongImporter) = pos 28

-- No place: a fault of no element.
abbrev pub nowhere : ElementFault
nowhere = record { element = 0; character = 0; identifier = negsuc 0; reason = pos 0 }

-- The place of an element, whose identifier is at fault, or stands where it may not.
abbrev pub at_element : ℕ → ℤ → ElementFault
at_element element identifier =
    record { element = counted element; character = 0; identifier = identifier; reason = pos 0 }

-- Where a fault by the table of identifiers is, and its reason.
abbrev pub fault_place : CheckError → ElementFault
fault_place (table.InvalidIdentifier element) = at_element element (negsuc 0)
fault_place (table.UnknownIdentifier element identifier) =
    at_element element (identifier_argument identifier)
fault_place (table.WrongValue element identifier place why) =
    record {
      element = counted element;
      character = counted place;
      identifier = identifier_argument identifier;
      reason = reason_argument why;
    }
fault_place other = nowhere

-- Where the element is that may not stand beside the others.
abbrev pub together_place_of : TogetherError → ElementFault
together_place_of (together.MissingElement element identifier) =
    at_element element (identifier_argument identifier)
together_place_of (together.ConflictingElement element identifier other) =
    at_element element (identifier_argument identifier)
together_place_of other = nowhere

-- Where the fault is for which there is no link.
abbrev pub link_place_of : LinkError → ElementFault
link_place_of (link.Elements error) = fault_place error
link_place_of (link.SecondKey element) = at_element element (negsuc 0)
link_place_of (link.WrongQualifier element identifier) =
    at_element element (identifier_argument identifier)
link_place_of (link.RepeatedElement element identifier) =
    at_element element (identifier_argument identifier)
link_place_of (link.Together error) = together_place_of error
link_place_of other = nowhere
