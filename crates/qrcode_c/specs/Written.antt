-- GS1 elements as people write them: their first fault, and the errors of a call for their symbol.
use Rattle.std.specs.Prelude.{◌≡◌, ◌⊎◌, ℕ, Bool, true, List, Option, None, Some, if◌then◌else◌}
use Rattle.std.specs.Option.{option_map, option_or}
use Rattle.std.specs.Str.{IsUtf8}
use Rattle.qrcode_bits.specs.Frame.{front_of}
use Rattle.qrcode_bits.specs.declared.bits.front.Content.TheVariants.{Elements}
use Rattle.gs1.specs.Elements.{text_fault, written_elements}
use Rattle.gs1.specs.Reader.{FindsOnly}
use Rattle.gs1.specs.Together.{text_conflict}
use Rattle.gs1.specs.Values.{text_error}
use Rattle.qrcode_c.specs.declared.faults.ElementFault.{ElementFault}
use Rattle.qrcode_c.specs.declared.options.Options.{Options}
use Rattle.qrcode_c.specs.declared.refusal.Refusal.{Refusal}
use Rattle.qrcode_c.specs.declared.refusal.Refusal.TheVariants.{DataTooLong, ShortBuffer}
use Rattle.qrcode_c.specs.declared.refusal.Refusal.TheVariants.{InvalidLevel, InvalidVersions}
use Rattle.qrcode_c.specs.declared.refusal.Refusal.TheVariants.{InvalidText}
use Rattle.qrcode_c.specs.Asking.{AsksFor, IsAskRefusal, IsAskedRefusal}
use Rattle.qrcode_c.specs.Faults.{refusal_for, table_refusal, together_refusal, IsFaultRefusal}
use Rattle.qrcode_c.specs.Faults.{fault_place, together_place_of}

-- The first fault of a text: by the table of identifiers, and then of elements that may not stand
-- together.
abbrev pub checked_refusal : List ℕ → Option Refusal
checked_refusal text =
    option_or (option_map table_refusal (text_error text))
    (option_map together_refusal (text_conflict text))

-- The first fault of a text that is checked, or of what a reader needs.
abbrev pub text_refusal : Bool → List ℕ → Option Refusal
text_refusal checked text =
    if checked then checked_refusal text else option_map refusal_for (text_fault text)

-- The text writes elements without a fault, in whose bytes a reader finds them and no others, and
-- of which the fact is true.
pub record WritesElements (checked : Bool) (text : List ℕ) (fact : List ℕ → Type 0) : Type 0 where
  pub elements : List ℕ
  pub faultless : text_refusal checked text ≡ None
  pub found : FindsOnly elements (written_elements text)
  pub true_of : fact elements

-- The errors of a call for elements as people write them, and when each is returned: first those of
-- the options; then the text is not UTF-8; then its first fault; then those of its elements. Data
-- are too long by the text, or by its elements.
abbrev pub IsWrittenRefusal : Bool → List ℕ → Options → ℕ → Refusal → Type 0
IsWrittenRefusal checked text asked room InvalidLevel = IsAskRefusal asked InvalidLevel
IsWrittenRefusal checked text asked room InvalidVersions = IsAskRefusal asked InvalidVersions
IsWrittenRefusal checked text asked room InvalidText = AsksFor asked (λ options. IsUtf8 text → ⊥)
IsWrittenRefusal checked text asked room DataTooLong =
    AsksFor asked (λ options. text_refusal checked text ≡ Some DataTooLong)
    ⊎ WritesElements checked text (λ elements.
    IsAskedRefusal (front_of None Elements) elements asked room DataTooLong)
IsWrittenRefusal checked text asked room ShortBuffer =
    WritesElements checked text (λ elements.
    IsAskedRefusal (front_of None Elements) elements asked room ShortBuffer)
IsWrittenRefusal checked text asked room refusal =
    AsksFor asked (λ options. IsFaultRefusal (text_refusal checked text) refusal)

-- The errors of the call that says where the first fault is: the text is not UTF-8, or the fault.
-- No memory is asked for.
abbrev pub IsTableRefusal : List ℕ → Refusal → Type 0
IsTableRefusal text InvalidText = IsUtf8 text → ⊥
IsTableRefusal text refusal = checked_refusal text ≡ Some refusal

-- Where the first fault of a text is.
abbrev pub checked_place : List ℕ → Option ElementFault
checked_place text =
    option_or (option_map fault_place (text_error text))
    (option_map together_place_of (text_conflict text))

-- The place is that of the first fault of the text.
abbrev pub TellsPlace : List ℕ → ElementFault → Type 0
TellsPlace text place =
    (first : ElementFault) → IsUtf8 text → checked_place text ≡ Some first → place ≡ first
