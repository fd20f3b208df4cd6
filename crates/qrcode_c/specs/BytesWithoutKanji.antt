-- The symbol of bytes without the Kanji mode in a buffer, and the errors of the call that draws it.
use Rattle.std.specs.Prelude.{ℕ, List}
use Rattle.smallest_symbols.specs.ByteHeadline.{IsAsAskedWithoutKanji, IsRefusedWithoutKanji}
use Rattle.qrcode_base.specs.declared.types.errors.QrError.TheVariants.{DataTooLong as TooLong}
use Rattle.qrcode_base.specs.declared.types.errors.QrError.TheVariants.{OutOfMemory as NoMemory}
use Rattle.qrcode_core.specs.Symbol.{DrawnSymbol, TellsReading}
use Rattle.qrcode_core.specs.declared.options.SymbolOptions.{SymbolOptions}
use Rattle.qrcode_c.specs.declared.options.Options.{Options}
use Rattle.qrcode_c.specs.declared.refusal.Refusal.{Refusal}
use Rattle.qrcode_c.specs.declared.refusal.Refusal.TheVariants.{DataTooLong, OutOfMemory}
use Rattle.qrcode_c.specs.declared.refusal.Refusal.TheVariants.{ShortBuffer}
use Rattle.qrcode_c.specs.declared.shape.Shape.{Shape}
use Rattle.qrcode_c.specs.Asking.{AsksFor, IsAskRefusal}
use Rattle.qrcode_c.specs.Buffers.{Holds}
use Rattle.qrcode_c.specs.Refusals.{IsAbove}

-- The symbol is the smallest one of the bytes without the Kanji mode that the options ask for, the
-- shape is what a reader finds in it, and the buffer and the shape hold it.
pub record IsDrawnWithoutKanji (bytes before after : List ℕ) (shape : Shape)
    (options : SymbolOptions) : Type 0 where
  pub symbol : DrawnSymbol
  pub is_asked : IsAsAskedWithoutKanji options bytes symbol.modules
  pub reading : TellsReading symbol
  pub holds : Holds symbol before after shape

-- The buffer and the shape hold the smallest symbol of the bytes without the Kanji mode that the
-- options of the caller ask for.
abbrev pub HoldsBytesWithoutKanji : List ℕ → Options → List ℕ → List ℕ → Shape → Type 0
HoldsBytesWithoutKanji bytes asked before after shape =
    AsksFor asked (IsDrawnWithoutKanji bytes before after shape)

-- The errors of the call, and when each is returned: first those of the options; then no segments
-- of the bytes without the Kanji mode fit the greatest version; the number of bytes is one for
-- which memory is needed; the symbol that is asked for has more modules than the buffer has bytes.
abbrev pub IsWithoutKanjiStatus : List ℕ → Options → ℕ → Refusal → Type 0
IsWithoutKanjiStatus bytes asked room DataTooLong =
    AsksFor asked (λ options. IsRefusedWithoutKanji options bytes TooLong)
IsWithoutKanjiStatus bytes asked room OutOfMemory =
    AsksFor asked (λ options. IsRefusedWithoutKanji options bytes NoMemory)
IsWithoutKanjiStatus bytes asked room ShortBuffer =
    AsksFor asked (λ options. IsAbove room (IsAsAskedWithoutKanji options bytes))
IsWithoutKanjiStatus bytes asked room refusal = IsAskRefusal asked refusal
