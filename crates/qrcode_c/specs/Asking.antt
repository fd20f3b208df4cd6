-- The options of a caller in C, and the errors of a call that takes them.
use Rattle.std.specs.Prelude.{◌≡◌, ◌≢◌, ◌↔◌, ℕ, pos, true, List, None}
use Rattle.std.specs.Str.{IsUtf8}
use Rattle.qrcode_base.specs.declared.types.errors.QrError.TheVariants.{DataTooLong as TooLong}
use Rattle.qrcode_base.specs.declared.types.errors.QrError.TheVariants.{OutOfMemory as NoMemory}
use Rattle.qrcode_bits.specs.Contents.{AreElements}
use Rattle.qrcode_bits.specs.Frame.{Front, front_of}
use Rattle.qrcode_bits.specs.Push.{IsVersionRange}
use Rattle.qrcode_bits.specs.declared.bits.front.Content.TheVariants.{Elements, Text}
use Rattle.qrcode_core.specs.declared.options.SymbolOptions.{SymbolOptions}
use Rattle.qrcode_core.specs.Options.{HasVersions, IsAsAsked, IsOptionsRefusal}
use Rattle.qrcode_c.specs.declared.options.Options.{Options}
use Rattle.qrcode_c.specs.declared.refusal.Refusal.{Refusal}
use Rattle.qrcode_c.specs.declared.refusal.Refusal.TheVariants.{DataTooLong, OutOfMemory}
use Rattle.qrcode_c.specs.declared.refusal.Refusal.TheVariants.{InvalidLevel, ShortBuffer}
use Rattle.qrcode_c.specs.declared.refusal.Refusal.TheVariants.{InvalidText, InvalidVersions}
use Rattle.qrcode_c.specs.declared.refusal.Refusal.TheVariants.{InvalidCharacter}
use Rattle.qrcode_c.specs.Levels.{level_argument, AtLevel, IsNoLevel}
use Rattle.qrcode_c.specs.Refusals.{IsAbove}

-- The numbers of the caller mean these options.
pub record Means (asked : Options) (options : SymbolOptions) : Type 0 where
  pub level_is : asked.level ≡ level_argument options.level
  pub least_is : asked.min_version ≡ options.min_version
  pub greatest_is : asked.max_version ≡ options.max_version
  pub strongest_is : (options.strongest ≡ true) ↔ (asked.strongest ≢ pos 0)

-- The numbers mean options whose versions are a range, and of which the fact is true.
pub record AsksFor (asked : Options) (fact : SymbolOptions → Type 0) : Type 0 where
  pub options : SymbolOptions
  pub means : Means asked options
  pub versions : HasVersions options
  pub true_of : fact options

-- The errors of the options, in their order: no level has the number; the versions are no range.
abbrev pub IsAskRefusal : Options → Refusal → Type 0
IsAskRefusal asked InvalidLevel = IsNoLevel asked.level
IsAskRefusal asked InvalidVersions =
    AtLevel asked.level (λ level. IsVersionRange asked.min_version asked.max_version → ⊥)
IsAskRefusal asked other = ⊥

-- The errors of a call for data of one content, and when each is returned: first those of the
-- options; then no plan of the data fits the greatest version; the number of bytes is one for which
-- memory is needed; the symbol that is asked for has more modules than the buffer has bytes.
abbrev pub IsAskedRefusal : Front → List ℕ → Options → ℕ → Refusal → Type 0
IsAskedRefusal front bytes asked room DataTooLong =
    AsksFor asked (λ options. IsOptionsRefusal options front bytes TooLong)
IsAskedRefusal front bytes asked room OutOfMemory =
    AsksFor asked (λ options. IsOptionsRefusal options front bytes NoMemory)
IsAskedRefusal front bytes asked room ShortBuffer =
    AsksFor asked (λ options. IsAbove room (IsAsAsked options front bytes))
IsAskedRefusal front bytes asked room refusal = IsAskRefusal asked refusal

-- The same for a text: after the options, the bytes are tested to be UTF-8.
abbrev pub IsAskedTextRefusal : List ℕ → Options → ℕ → Refusal → Type 0
IsAskedTextRefusal text asked room InvalidLevel = IsAskRefusal asked InvalidLevel
IsAskedTextRefusal text asked room InvalidVersions = IsAskRefusal asked InvalidVersions
IsAskedTextRefusal text asked room InvalidText = AsksFor asked (λ options. IsUtf8 text → ⊥)
IsAskedTextRefusal text asked room refusal =
    IsUtf8 text × IsAskedRefusal (front_of None Text) text asked room refusal

-- The same for GS1 elements: after the options, the bytes are tested to be elements.
abbrev pub IsAskedElementsRefusal : List ℕ → Options → ℕ → Refusal → Type 0
IsAskedElementsRefusal elements asked room InvalidLevel = IsAskRefusal asked InvalidLevel
IsAskedElementsRefusal elements asked room InvalidVersions = IsAskRefusal asked InvalidVersions
IsAskedElementsRefusal elements asked room InvalidCharacter =
    AsksFor asked (λ options. AreElements elements → ⊥)
IsAskedElementsRefusal elements asked room refusal =
    AreElements elements × IsAskedRefusal (front_of None Elements) elements asked room refusal
