-- The smallest symbol of a text in a buffer, and the errors of the calls that draw it.
use Rattle.std.specs.Prelude.{◌≡◌, ◌≢◌, ℕ, ℤ, List, chars}
use Rattle.std.specs.Str.{IsUtf8}
use Rattle.qrcode_base.specs.declared.types.EcLevel.{EcLevel}
use Rattle.qrcode_base.specs.declared.types.EcLevel.TheVariants.{H}
use Rattle.qrcode_base.specs.declared.types.errors.QrError.TheVariants.{DataTooLong as TooLong}
use Rattle.qrcode_base.specs.declared.types.errors.QrError.TheVariants.{OutOfMemory as NoMemory}
use Rattle.qrcode_bits.specs.Plans.{micro}
use Rattle.qrcode_core.specs.Symbol.{DrawnSymbol}
use Rattle.qrcode_core.specs.declared.options.SymbolOptions.{SymbolOptions}
use Rattle.smallest_symbols.specs.TextHeadline.{IsMicroTextRefused, IsSmallestText, IsTextAsAsked}
use Rattle.smallest_symbols.specs.TextHeadline.{IsTextRefused, TellsTextReading}
use Rattle.smallest_symbols.specs.declared.micro_texts.MicroTextError.TheVariants.{Symbol}
use Rattle.smallest_symbols.specs.declared.micro_texts.MicroTextError.TheVariants.{Unwritable}
use Rattle.qrcode_c.specs.declared.options.Options.{Options}
use Rattle.qrcode_c.specs.declared.refusal.Refusal.{Refusal}
use Rattle.qrcode_c.specs.declared.refusal.Refusal.TheVariants.{DataTooLong, OutOfMemory}
use Rattle.qrcode_c.specs.declared.refusal.Refusal.TheVariants.{InvalidLevel, InvalidText}
use Rattle.qrcode_c.specs.declared.refusal.Refusal.TheVariants.{ShortBuffer, UnwritableText}
use Rattle.qrcode_c.specs.declared.shape.Shape.{Shape}
use Rattle.qrcode_c.specs.Asking.{AsksFor, IsAskRefusal}
use Rattle.qrcode_c.specs.Buffers.{Holds}
use Rattle.qrcode_c.specs.Levels.{level_argument, AtLevel, IsNoMicroLevel}
use Rattle.qrcode_c.specs.Refusals.{IsAbove}

-- ---- What is written

-- The symbol is the smallest one of a text that the options ask for, the shape is what a reader of
-- texts finds in it, and the buffer and the shape hold it.
pub record IsTextDrawnAs (text before after : List ℕ) (shape : Shape)
    (options : SymbolOptions) : Type 0 where
  pub symbol : DrawnSymbol
  pub is_asked : IsTextAsAsked options text symbol.modules
  pub reading : TellsTextReading symbol
  pub holds : Holds symbol before after shape

-- The buffer and the shape hold the smallest symbol of a text in UTF-8 that the options of the
-- caller ask for.
abbrev pub HoldsSmallestText : List ℕ → Options → List ℕ → List ℕ → Shape → Type 0
HoldsSmallestText text asked before after shape =
    AsksFor asked (IsTextDrawnAs (chars text) before after shape)

-- The buffer and the shape hold the smallest Micro symbol of a text in UTF-8 at the level that the
-- number stands for.
pub record HoldsMicroText (text : List ℕ) (number : ℤ) (before after : List ℕ)
    (shape : Shape) : Type 0 where
  pub level : EcLevel
  pub level_is : number ≡ level_argument level
  pub symbol : DrawnSymbol
  pub is_smallest : IsSmallestText micro (chars text) level symbol.modules
  pub reading : TellsTextReading symbol
  pub holds : Holds symbol before after shape

-- ---- Errors

-- The errors of the call for the smallest symbol of a text, and when each is returned: first those
-- of the options; then the bytes are not UTF-8; then nothing that is read as the text fits the
-- greatest version; the number of characters is one for which memory is needed; the symbol that is
-- asked for has more modules than the buffer has bytes.
abbrev pub IsSmallestTextStatus : List ℕ → Options → ℕ → Refusal → Type 0
IsSmallestTextStatus text asked room InvalidText = AsksFor asked (λ options. IsUtf8 text → ⊥)
IsSmallestTextStatus text asked room DataTooLong =
    IsUtf8 text × AsksFor asked (λ options. IsTextRefused options (chars text) TooLong)
IsSmallestTextStatus text asked room OutOfMemory =
    IsUtf8 text × AsksFor asked (λ options. IsTextRefused options (chars text) NoMemory)
IsSmallestTextStatus text asked room ShortBuffer =
    IsUtf8 text × AsksFor asked (λ options. IsAbove room (IsTextAsAsked options (chars text)))
IsSmallestTextStatus text asked room refusal = IsAskRefusal asked refusal

-- The errors of the call for the Micro symbol of a text, and when each is returned: no Micro
-- version has the level of the number; then the bytes are not UTF-8; then no Micro symbol is read
-- as the text; nothing that is read as it fits any of the versions; the number of characters is one
-- for which memory is needed; the smallest symbol has more modules than the buffer has bytes.
abbrev pub IsMicroTextStatus : List ℕ → ℤ → ℕ → Refusal → Type 0
IsMicroTextStatus text number room InvalidLevel = IsNoMicroLevel number
IsMicroTextStatus text number room InvalidText =
    AtLevel number (λ level. (level ≢ H) × (IsUtf8 text → ⊥))
IsMicroTextStatus text number room UnwritableText =
    AtLevel number (λ level. IsUtf8 text × IsMicroTextRefused level (chars text) Unwritable)
IsMicroTextStatus text number room DataTooLong =
    AtLevel number (λ level. IsUtf8 text × IsMicroTextRefused level (chars text) (Symbol TooLong))
IsMicroTextStatus text number room OutOfMemory =
    AtLevel number (λ level. IsUtf8 text × IsMicroTextRefused level (chars text) (Symbol NoMemory))
IsMicroTextStatus text number room ShortBuffer =
    AtLevel number (λ level. IsUtf8 text × IsAbove room (IsSmallestText micro (chars text) level))
IsMicroTextStatus text number room other = ⊥
