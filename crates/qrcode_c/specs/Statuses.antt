-- The numbers of the errors, and which of them stand for those of the library.
use Rattle.std.specs.Prelude.{ℤ, pos, Option, Some, None}
use Rattle.qrcode_base.specs.declared.types.errors.QrError.{QrError}
use Rattle.qrcode_base.specs.declared.types.errors.QrError.TheVariants as core
use Rattle.smallest_symbols.specs.declared.micro_texts.MicroTextError.{MicroTextError}
use Rattle.smallest_symbols.specs.declared.micro_texts.MicroTextError.TheVariants.{Symbol}
use Rattle.smallest_symbols.specs.declared.micro_texts.MicroTextError.TheVariants.{Unwritable}
use Rattle.qrcode_c.specs.declared.refusal.Refusal.{Refusal}
use Rattle.qrcode_c.specs.declared.refusal.Refusal.TheVariants.{DataTooLong, OutOfMemory}
use Rattle.qrcode_c.specs.declared.refusal.Refusal.TheVariants.{InvalidLevel}
use Rattle.qrcode_c.specs.declared.refusal.Refusal.TheVariants.{InvalidMaxVersion, InvalidPartCount}
use Rattle.qrcode_c.specs.declared.refusal.Refusal.TheVariants.{InvalidCuts, InvalidIndex}
use Rattle.qrcode_c.specs.declared.refusal.Refusal.TheVariants.{ShortBuffer, InvalidText}
use Rattle.qrcode_c.specs.declared.refusal.Refusal.TheVariants.{InvalidVersions, InvalidCharacter}
use Rattle.qrcode_c.specs.declared.refusal.Refusal.TheVariants.{NoElements, InvalidIdentifier}
use Rattle.qrcode_c.specs.declared.refusal.Refusal.TheVariants.{UnknownIdentifier, EmptyValue}
use Rattle.qrcode_c.specs.declared.refusal.Refusal.TheVariants.{ValueTooLong, WrongLength}
use Rattle.qrcode_c.specs.declared.refusal.Refusal.TheVariants.{WrongCheckDigit, InvalidWidth}
use Rattle.qrcode_c.specs.declared.refusal.Refusal.TheVariants.{InvalidFormat, InvalidSetting}
use Rattle.qrcode_c.specs.declared.refusal.Refusal.TheVariants.{WrongValue, WrongDomain, NoKey}
use Rattle.qrcode_c.specs.declared.refusal.Refusal.TheVariants.{SecondKey, WrongQualifier}
use Rattle.qrcode_c.specs.declared.refusal.Refusal.TheVariants.{RepeatedElement}
use Rattle.qrcode_c.specs.declared.refusal.Refusal.TheVariants.{MissingElement, ConflictingElement}
use Rattle.qrcode_c.specs.declared.refusal.Refusal.TheVariants.{UnwritableText}

-- The number of an error, which is the status of the call.
abbrev pub status_of : Refusal → ℤ
status_of DataTooLong = pos 1
status_of OutOfMemory = pos 2
status_of InvalidLevel = pos 3
status_of InvalidMaxVersion = pos 4
status_of InvalidPartCount = pos 5
status_of InvalidCuts = pos 6
status_of InvalidIndex = pos 7
status_of ShortBuffer = pos 8
status_of InvalidText = pos 10
status_of InvalidVersions = pos 11
status_of InvalidCharacter = pos 12
status_of NoElements = pos 13
status_of InvalidIdentifier = pos 14
status_of UnknownIdentifier = pos 15
status_of EmptyValue = pos 16
status_of ValueTooLong = pos 17
status_of WrongLength = pos 18
status_of WrongCheckDigit = pos 19
status_of InvalidWidth = pos 20
status_of InvalidFormat = pos 21
status_of InvalidSetting = pos 22
status_of WrongValue = pos 24
status_of WrongDomain = pos 25
status_of NoKey = pos 26
status_of SecondKey = pos 27
status_of WrongQualifier = pos 28
status_of RepeatedElement = pos 29
status_of MissingElement = pos 30
status_of ConflictingElement = pos 31
status_of UnwritableText = pos 32

-- The error that stands for one of the library. Of the library's calls behind those of C, none has
-- another error, since what these would speak of is tested before.
abbrev pub status_error : QrError → Option Refusal
status_error (core.DataTooLong) = Some DataTooLong
status_error (core.InvalidVersion version level) = Some InvalidLevel
status_error (core.InvalidCharacter position byte) = Some InvalidCharacter
status_error (core.InvalidStructuredAppend value) = Some InvalidPartCount
status_error (core.OutOfMemory) = Some OutOfMemory
status_error other = None

-- The error that stands for one of the Micro symbol of a text.
abbrev pub micro_text_status : MicroTextError → Option Refusal
micro_text_status Unwritable = Some UnwritableText
micro_text_status (Symbol error) = status_error error
