-- The cuts of a message in a buffer, and the errors of the call that finds them.
use Rattle.std.specs.Prelude.{◌≡◌, ◌++◌, ◌<◌, ℕ, ℤ, nat_abs, List, length, drop}
use Rattle.qrcode_base.specs.declared.types.EcLevel.{EcLevel}
use Rattle.qrcode_base.specs.declared.types.errors.QrError.TheVariants.{DataTooLong as TooLong}
use Rattle.qrcode_base.specs.Symbols.{IsNormalNumber}
use Rattle.qrcode_bits.specs.declared.bits.front.Content.{Content}
use Rattle.qrcode_core.specs.BestCuts.{AreBestCuts, IsCutsRefusal}
use Rattle.qrcode_c.specs.declared.refusal.Refusal.{Refusal}
use Rattle.qrcode_c.specs.declared.refusal.Refusal.TheVariants.{DataTooLong, OutOfMemory}
use Rattle.qrcode_c.specs.declared.refusal.Refusal.TheVariants.{InvalidLevel, InvalidMaxVersion}
use Rattle.qrcode_c.specs.declared.refusal.Refusal.TheVariants.{ShortBuffer}
use Rattle.qrcode_c.specs.Levels.{level_argument, AtLevel, IsNoLevel}

-- The first numbers of the buffer are the best cuts of the message, as many as are counted; the
-- other numbers are unchanged.
pub record HoldsCuts (content : Content) (message : List ℕ) (number limit : ℤ)
    (before after : List ℕ) (count : ℕ) : Type 0 where
  pub level : EcLevel
  pub level_is : number ≡ level_argument level
  pub cuts : List ℕ
  pub are_best : AreBestCuts content message level (nat_abs limit) cuts
  pub count_is : count ≡ length cuts
  pub written : after ≡ cuts ++ drop (length cuts) before

-- The message has best cuts, and there are more of them than the buffer has places.
pub record AreCutsAbove (room : ℕ) (content : Content) (message : List ℕ) (level : EcLevel)
    (limit : ℤ) : Type 0 where
  pub cuts : List ℕ
  pub are_best : AreBestCuts content message level (nat_abs limit) cuts
  pub above : room < length cuts

-- The errors of the call for cuts, and when each is returned, in the order of the lines.
abbrev pub IsCutsStatus : Content → List ℕ → ℤ → ℤ → ℕ → Refusal → Type 0
IsCutsStatus content message number limit room InvalidLevel = IsNoLevel number
IsCutsStatus content message number limit room InvalidMaxVersion =
    AtLevel number (λ level. IsNormalNumber limit → ⊥)
IsCutsStatus content message number limit room DataTooLong =
    AtLevel number (λ level. IsCutsRefusal content message level limit TooLong)
IsCutsStatus content message number limit room OutOfMemory =
    AtLevel number (λ level. IsNormalNumber limit)
IsCutsStatus content message number limit room ShortBuffer =
    AtLevel number (λ level. AreCutsAbove room content message level limit)
IsCutsStatus content message number limit room other = ⊥
