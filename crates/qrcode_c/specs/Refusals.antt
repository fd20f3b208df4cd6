-- The errors of a call, and when each is returned.
use Rattle.std.specs.Prelude.{◌≡◌, ◌≢◌, ◌⊎◌, ◌+◌, ◌<◌, ◌≤◌, ℕ, ℤ, nat_abs, List, length}
use Rattle.std.specs.Prelude.{All}
use Rattle.std.specs.List.Sorted.{IsNonDecreasing}
use Rattle.std.specs.Str.{IsUtf8}
use Rattle.qrcode_base.specs.declared.symbols.TheConstants.{LONGEST_DATA}
use Rattle.qrcode_base.specs.declared.types.Color.{Color}
use Rattle.qrcode_base.specs.declared.types.EcLevel.{EcLevel}
use Rattle.qrcode_base.specs.declared.types.EcLevel.TheVariants.{H}
use Rattle.qrcode_base.specs.Symbols.{IsNormalNumber}
use Rattle.qrcode_core.specs.Symbol.{DrawnSymbol}
use Rattle.qrcode_core.specs.Headline.{IsBestSymbol, IsBestMicroSymbol, IsTooLong}
use Rattle.qrcode_core.specs.Headline.{IsTooLongForMicro}
use Rattle.qrcode_core.specs.Sequence.{IsBestPart, IsSomePartTooLong}
use Rattle.qrcode_bits.specs.Frame.{IsTotal}
use Rattle.qrcode_c.specs.declared.refusal.Refusal.{Refusal}
use Rattle.qrcode_c.specs.declared.refusal.Refusal.TheVariants.{DataTooLong, OutOfMemory}
use Rattle.qrcode_c.specs.declared.refusal.Refusal.TheVariants.{InvalidLevel, InvalidText}
use Rattle.qrcode_c.specs.declared.refusal.Refusal.TheVariants.{InvalidMaxVersion, InvalidPartCount}
use Rattle.qrcode_c.specs.declared.refusal.Refusal.TheVariants.{InvalidCuts}
use Rattle.qrcode_c.specs.declared.refusal.Refusal.TheVariants.{InvalidIndex, ShortBuffer}
use Rattle.qrcode_c.specs.Levels.{AtLevel, IsNoLevel, IsNoMicroLevel}
use Rattle.qrcode_c.specs.Statuses.{status_of}
use Rattle.qrcode_bits.specs.declared.bits.front.Content.TheVariants.{Bytes}

-- The status is the number of an error for which the fact is true.
abbrev pub IsStatusOf : (Refusal → Type 0) → ℤ → Type 0
IsStatusOf comes status = (refusal : Refusal) × (status ≡ status_of refusal) × comes refusal

-- The error of a call for a text: after the level the bytes are tested to be UTF-8, and then comes
-- one of the other errors.
abbrev pub IsTextStatus : List ℕ → ℤ → (Refusal → Type 0) → Refusal → Type 0
IsTextStatus text number others refusal =
    ((refusal ≡ InvalidText) × AtLevel number (λ level. IsUtf8 text → ⊥))
    ⊎ ((refusal ≢ InvalidLevel → IsUtf8 text) × others refusal)

-- The best symbol has more modules than the buffer has bytes.
abbrev pub IsAbove : ℕ → (List Color → Type 0) → Type 0
IsAbove room best = (modules : List Color) × best modules × (room < length modules)

-- The errors of the call for a symbol, and when each is returned, for the number of the level and
-- the length of the buffer.
abbrev pub IsSymbolRefusal : List ℕ → ℤ → ℕ → Refusal → Type 0
IsSymbolRefusal bytes number room InvalidLevel = IsNoLevel number
IsSymbolRefusal bytes number room DataTooLong = AtLevel number (IsTooLong bytes)
IsSymbolRefusal bytes number room OutOfMemory =
    AtLevel number (λ level. length bytes ≤ LONGEST_DATA)
IsSymbolRefusal bytes number room ShortBuffer =
    AtLevel number (λ level. IsAbove room (IsBestSymbol bytes level))
IsSymbolRefusal bytes number room _ = ⊥

-- The errors of the call for a Micro symbol, and when each is returned.
abbrev pub IsMicroRefusal : List ℕ → ℤ → ℕ → Refusal → Type 0
IsMicroRefusal bytes number room InvalidLevel = IsNoMicroLevel number
IsMicroRefusal bytes number room DataTooLong =
    AtLevel number (λ level. (level ≢ H) × IsTooLongForMicro bytes level)
IsMicroRefusal bytes number room OutOfMemory =
    AtLevel number (λ level. (level ≢ H) × (length bytes ≤ LONGEST_DATA))
IsMicroRefusal bytes number room ShortBuffer =
    AtLevel number (λ level. IsAbove room (IsBestMicroSymbol bytes level))
IsMicroRefusal bytes number room _ = ⊥

-- No cut is less than the one before it, and none is greater than the length of the message.
abbrev pub AreCuts : List ℕ → ℕ → Type 0
AreCuts cuts end = IsNonDecreasing cuts × All (λ cut. cut ≤ end) cuts

-- The arguments are valid: the cuts are, there is a part at the index, and the greatest version is
-- 1 to 40.
pub record IsAsked (message cuts : List ℕ) (limit : ℤ) (index : ℕ) : Type 0 where
  pub cuts_good : AreCuts cuts (length message)
  pub is_part : index ≤ length cuts
  pub is_limit : IsNormalNumber limit

-- The symbol is the best one of the part at an index of a message that is cut into 2 to 16 parts,
-- each of which fits a symbol.
pub record IsPartSymbol (message cuts : List ℕ) (level : EcLevel) (limit : ℤ) (index : ℕ)
    (symbol : DrawnSymbol) : Type 0 where
  pub is_total : IsTotal (length cuts + 1)
  pub is_part : index ≤ length cuts
  pub is_best : IsBestPart Bytes message cuts level (nat_abs limit) index symbol.modules
  pub all_fit : IsSomePartTooLong Bytes message cuts level (nat_abs limit) → ⊥

-- The symbol of the part at the index has more modules than the buffer has bytes.
pub record IsPartAbove (room : ℕ) (message cuts : List ℕ) (level : EcLevel) (limit : ℤ)
    (index : ℕ) : Type 0 where
  pub symbol : DrawnSymbol
  pub is_symbol : IsPartSymbol message cuts level limit index symbol
  pub above : room < length symbol.modules

-- The errors of the call for a part of a message, and when each is returned. The errors are checked
-- in the order of the lines.
abbrev pub IsPartRefusal : List ℕ → List ℕ → ℤ → ℤ → ℕ → ℕ → Refusal → Type 0
IsPartRefusal message cuts number limit index room InvalidLevel = IsNoLevel number
IsPartRefusal message cuts number limit index room InvalidCuts =
    AtLevel number (λ level. AreCuts cuts (length message) → ⊥)
IsPartRefusal message cuts number limit index room InvalidIndex =
    AtLevel number (λ level. AreCuts cuts (length message) × (length cuts < index))
IsPartRefusal message cuts number limit index room InvalidMaxVersion =
    AtLevel number (λ level. AreCuts cuts (length message) × (index ≤ length cuts)
    × (IsNormalNumber limit → ⊥))
IsPartRefusal message cuts number limit index room InvalidPartCount =
    AtLevel number (λ level. IsAsked message cuts limit index × (IsTotal (length cuts + 1) → ⊥))
IsPartRefusal message cuts number limit index room DataTooLong =
    AtLevel number (λ level. IsAsked message cuts limit index × IsTotal (length cuts + 1)
    × IsSomePartTooLong Bytes message cuts level (nat_abs limit))
IsPartRefusal message cuts number limit index room OutOfMemory =
    AtLevel number (λ level. IsAsked message cuts limit index × IsTotal (length cuts + 1))
IsPartRefusal message cuts number limit index room ShortBuffer =
    AtLevel number (λ level. IsPartAbove room message cuts level limit index)
IsPartRefusal message cuts number limit index room _ = ⊥
