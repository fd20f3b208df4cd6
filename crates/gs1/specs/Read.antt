-- What a scanner gives.
use Rattle.std.specs.Prelude.{◌≡◌, ℕ, ◌-◌, ◌==◌, ◌&&◌, if◌then◌else◌, List, length, take, drop}
use Rattle.std.specs.Prelude.{slice_index}
use Rattle.gs1.specs.Elements.{Element, bracketed}
use Rattle.gs1.specs.Strings.{FindsBefore, BeginsWithNone}
use Rattle.gs1.specs.Checked.{AreAllowedElements, IsRefusedStringByTable}
use Rattle.gs1.specs.declared.refusal.CheckError.{CheckError}
use Rattle.gs1.specs.declared.refusal.CheckError.TheVariants.{OutOfMemory}

-- The bytes without `]Q3` in front, the symbology identifier of a QR Code symbol with FNC1 in the
-- first position (ISO/IEC 18004:2006, section 7.4.9, and ISO/IEC 15424).
unfoldable pub without_symbology : List ℕ → List ℕ
without_symbology bytes =
    if (slice_index bytes 0 == 0x5d) && (slice_index bytes 1 == 0x51) && (slice_index bytes 2 == 0x33)
    then drop 3 bytes else bytes

-- The bytes without a separator at the end, behind which there is no element.
unfoldable pub without_separator : List ℕ → List ℕ
without_separator bytes =
    if slice_index bytes (length bytes - 1) == 0x1d then take (length bytes - 1) bytes else bytes

-- What a scanner gives without its marks: `]Q3` in front, and one separator at the end.
abbrev pub scanned : List ℕ → List ℕ
scanned bytes = without_separator (without_symbology bytes)

-- When each error is returned: out of memory only where the table allows each element.
abbrev pub IsRefusedScan : List ℕ → CheckError → Type 0
IsRefusedScan bytes OutOfMemory = AreAllowedElements bytes
IsRefusedScan bytes error = IsRefusedStringByTable bytes error

-- The text writes the elements that a reader finds first in the bytes, and what is left begins
-- with none.
pub record WritesFirst (bytes text : List ℕ) : Type 0 where
  pub elements : List Element
  pub rest : List ℕ
  pub found : FindsBefore bytes elements rest
  pub none : BeginsWithNone rest
  pub text_is : text ≡ bracketed elements
