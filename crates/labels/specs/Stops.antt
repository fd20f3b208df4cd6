-- What is written where there is no label.
use Rattle.std.specs.Prelude.{ℕ, List, [], ◌∷◌, ◌++◌, codes, decimal, Option, None, Some}
use Rattle.std.specs.Prelude.{nat_abs, Bool, false, if◌then◌else◌, slice_index, nat_lt}
use Rattle.std.specs.declared.io.ErrorKind.{ErrorKind}
use Rattle.gs1.specs.declared.error.Gs1Error.{Gs1Error}
use Rattle.gs1.specs.declared.error.Gs1Error.TheVariants.{NoElements, InvalidIdentifier, UnknownIdentifier}
use Rattle.gs1.specs.declared.error.Gs1Error.TheVariants.{EmptyValue, ValueTooLong, InvalidCharacter}
use Rattle.gs1.specs.declared.error.Gs1Error.TheVariants.{WrongLength, WrongCheckDigit, OutOfMemory}
use Rattle.programs.specs.Outcome.{error_line}
use Rattle.programs.specs.Reasons.{device_report, is_closed_pipe}
use Rattle.programs.specs.declared.Fault.{Fault as FaultOf}
use Rattle.programs.specs.declared.Fault.TheVariants.{Read, Write}
use Rattle.programs.specs.declared.reasons.TheConstants.{CLOSED_PIPE}
use Rattle.single_label.specs.Faults.{element_number}
use Rattle.labels.specs.Pieces.{line_of, counted_from_one, digit_text, unless_zero}
use Rattle.labels.specs.Refusals.{refusal_line, no_link_line}
use Rattle.single_label.specs.declared.stop.ElementStop.{ElementStop}
use Rattle.labels.specs.declared.stop.LineStop.{LineStop}
use Rattle.single_label.specs.declared.stop.Stop.{Stop}
use Rattle.single_label.specs.declared.stop.Stop.TheVariants.{Fault, Elements, NotAllowed, NoLink}
use Rattle.single_label.specs.declared.stop.Stop.TheVariants.{Empty, NoMicroText, TooLong}
use Rattle.single_label.specs.declared.stop.Stop.TheVariants.{TooManyParts, TooManyPages}
use Rattle.single_label.specs.declared.stop.TextLength.{TextLength}
use Rattle.single_label.specs.declared.stop.TooLong.{TooLong as TooLongOf}
use Rattle.qrcode_base.specs.Names.{level_text}
use Rattle.qrcode_base.specs.declared.symbols.TheConstants.{LONGEST_DATA}
use Rattle.qrcode_base.specs.declared.types.EcLevel.{EcLevel}
use Rattle.qrcode_base.specs.declared.types.Version.{Version}
use Rattle.qrcode_base.specs.declared.types.Version.TheVariants.{Normal, Micro}

-- What is wrong with an element.
abbrev pub element_text : Gs1Error → List ℕ
element_text NoElements = codes "no elements, which are written as in (01)09506000134352"
element_text (InvalidIdentifier element) = codes "the identifier is cut short, or not two to four digits"
element_text (UnknownIdentifier element) = codes "unknown identifier"
element_text (EmptyValue element) = codes "the value is empty, or a bracket is not closed"
element_text (ValueTooLong element) = codes "the value has more than 90 characters"
element_text (InvalidCharacter element position byte) =
    codes "a character of the value is not allowed there"
element_text (WrongLength element) = codes "the length of the value is wrong"
element_text (WrongCheckDigit element) = codes "wrong check digit"
element_text OutOfMemory = codes "out of memory"

-- The line of a text that gives no elements: the element by its identifier and its number, what is
-- wrong, and what would be right.
unfoldable pub element_line : List ℕ → ElementStop → List ℕ
element_line name at =
    elim (element_number at.error) [
      | Some n ↦ line_of name (unless_zero (slice_index at.identifier 0) (codes "(")
          ∷ digit_text (slice_index at.identifier 0) ∷ digit_text (slice_index at.identifier 1)
          ∷ digit_text (slice_index at.identifier 2) ∷ digit_text (slice_index at.identifier 3)
          ∷ unless_zero (slice_index at.identifier 0) (codes "), ")
          ∷ codes "element " ∷ decimal (counted_from_one n) ∷ codes ": " ∷ element_text at.error
          ∷ unless_zero at.digit (codes "; the check digit would be ") ∷ digit_text at.digit ∷ [])
      | None ↦ line_of name (element_text at.error ∷ [])
    ]

-- A text that no Micro symbol is read as.
abbrev pub no_micro_text : List ℕ
no_micro_text = codes "no Micro symbol is read as this text, see -c micro-bytes"

-- The level and the greatest version that a symbol could have, as an error calls them.
abbrev pub version_kind : Version → List ℕ
version_kind (Normal number) = codes " up to version "
version_kind (Micro number) = codes " up to version M"

abbrev pub level_piece : EcLevel → Version → List ℕ
level_piece level version = codes ", and level " ++ (level_text level ++ version_kind version)

abbrev pub printed_version : Version → ℕ
printed_version (Normal number) = nat_abs number
printed_version (Micro number) = nat_abs number

-- The lower level at which there is a symbol.
abbrev pub fits_piece : Option EcLevel → List ℕ
fits_piece None = []
fits_piece (Some level) = codes "; it fits level " ++ level_text level

-- Several symbols can carry the content together.
abbrev pub split_piece : Bool → List ℕ
split_piece splits = if splits then codes "; see --split" else []

abbrev pub rest_piece : Option EcLevel → Bool → List ℕ
rest_piece fits splits = fits_piece fits ++ split_piece splits

-- More bytes than a symbol holds.
abbrev pub many_text : Bool → List ℕ
many_text splits = codes "data too long: more than 7089 bytes" ++ split_piece splits

-- More bytes than the symbols of a sequence hold.
abbrev pub parts_text : List ℕ
parts_text = codes "data too long: no 16 symbols hold it at this level up to --max-version"

-- More pages than a document has room for.
abbrev pub no_room_text : List ℕ
no_room_text = codes "no room for the page: a PDF document has at most 9999999999 bytes"

-- The line of a content that is too long.
unfoldable pub room_line : List ℕ → TooLongOf → List ℕ
room_line name long =
    line_of name (codes "data too long: " ∷ decimal long.length ∷ codes " bytes"
    ∷ level_piece long.level long.version ∷ decimal (printed_version long.version)
    ∷ codes " has room for " ∷ decimal long.bytes ∷ codes " bytes or " ∷ decimal long.digits
    ∷ codes " digits" ∷ rest_piece long.fits long.can_be_split ∷ [])

-- The line of a text beyond ASCII that is too long, by the bits that it takes.
unfoldable pub bits_line : List ℕ → TooLongOf → TextLength → List ℕ
bits_line name long found =
    line_of name (codes "data too long: " ∷ decimal found.bits ∷ codes " bits"
    ∷ level_piece long.level long.version ∷ decimal (printed_version long.version)
    ∷ codes " has room for " ∷ decimal found.room ∷ codes " bits"
    ∷ rest_piece long.fits long.can_be_split ∷ [])

unfoldable pub long_line : List ℕ → TooLongOf → List ℕ
long_line name long =
    elim long.text [
      | Some found ↦ bits_line name long found
      | None ↦
          if nat_lt LONGEST_DATA long.length
          then line_of name (many_text long.can_be_split ∷ [])
          else room_line name long
    ]

-- The line that says why there is no label.
unfoldable pub stop_line : List ℕ → Stop → List ℕ
stop_line name (Fault fault) = error_line name fault
stop_line name (Elements at) = element_line name at
stop_line name (NotAllowed error) = refusal_line name error
stop_line name (NoLink error) = no_link_line name error
stop_line name Empty = line_of name (codes "empty input, see --allow-empty" ∷ [])
stop_line name NoMicroText = line_of name (no_micro_text ∷ [])
stop_line name (TooLong long) = long_line name long
stop_line name TooManyParts = line_of name (parts_text ∷ [])
stop_line name TooManyPages = line_of name (no_room_text ∷ [])

-- The same of a line of the input, with its number.
abbrev pub numbered_line : LineStop → List ℕ
numbered_line at = codes "qrlabel: line " ++ stop_line (decimal at.number) at.stop

-- ---- Devices

-- The input and the output, by the names that errors call them, and why they failed, if they did.
pub record Devices : Type 0 where
  pub source : List ℕ
  pub not_read : Option ErrorKind
  pub target : List ℕ
  pub not_written : Option ErrorKind

-- What is written where there is no label: of a device, its name and the reason.
abbrev pub fault_report : List ℕ → Devices → FaultOf → List ℕ
fault_report name devices Read = device_report name (codes "read") devices.source devices.not_read
fault_report name devices Write = device_report name (codes "write") devices.target devices.not_written
fault_report name devices fault = error_line name fault

-- What is written where there is no label: of a device its name and why it failed, of a closed pipe
-- nothing, else the line.
abbrev pub stop_report : List ℕ → Devices → Stop → List ℕ
stop_report name devices (Fault fault) = fault_report name devices fault
stop_report name devices stop = stop_line name stop

-- Nothing is written of a pipe that nobody reads from any more.
abbrev pub is_silent_fault : Devices → FaultOf → Bool
is_silent_fault devices Read = is_closed_pipe devices.not_read
is_silent_fault devices Write = is_closed_pipe devices.not_written
is_silent_fault devices fault = false

abbrev pub is_silent : Devices → Stop → Bool
is_silent devices (Fault fault) = is_silent_fault devices fault
is_silent devices stop = false

-- What is written where the labels of lines end at a line, with its number.
abbrev pub end_report : Devices → LineStop → List ℕ
end_report devices at =
    if is_silent devices at.stop then []
    else codes "qrlabel: line " ++ stop_report (decimal at.number) devices at.stop

-- The exit status then.
abbrev pub fault_status : Devices → FaultOf → ℕ
fault_status devices fault = if is_silent_fault devices fault then CLOSED_PIPE else 1

-- The exit status then: that of a closed pipe, or 1.
abbrev pub stop_status : Devices → Stop → ℕ
stop_status devices stop = if is_silent devices stop then CLOSED_PIPE else 1
