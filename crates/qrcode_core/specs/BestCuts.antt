-- Cuts of a message into as few parts as can be, each for one symbol of a sequence (ISO/IEC
-- 18004:2006, "Structured Append").
use Rattle.std.specs.Prelude.{ℕ, ℤ, nat_abs, ◌+◌, ◌<◌, ◌≤◌, List, [], ◌∷◌, length, slice_range}
use Rattle.qrcode_base.specs.declared.types.EcLevel.{EcLevel}
use Rattle.qrcode_base.specs.declared.types.errors.QrError.{QrError}
use Rattle.qrcode_base.specs.declared.types.errors.QrError.TheVariants.{DataTooLong}
use Rattle.qrcode_base.specs.declared.types.errors.QrError.TheVariants.{InvalidResourceLimits}
use Rattle.qrcode_base.specs.declared.types.errors.QrError.TheVariants.{OutOfMemory}
use Rattle.qrcode_base.specs.Symbols.{IsNormalNumber}
use Rattle.qrcode_bits.specs.Contents.{parsed_bytes, content_bits}
use Rattle.qrcode_bits.specs.Places.{IsCutPlace}
use Rattle.qrcode_bits.specs.Plans.{normal, FitsNone}
use Rattle.qrcode_bits.specs.declared.bits.front.Content.{Content}

-- The part of a message from a place to another fits no version up to a limit, after the 20 bits of
-- the header and those of the content.
abbrev pub IsPartTooLong : Content → List ℕ → EcLevel → ℕ → ℕ → ℕ → Type 0
IsPartTooLong content message level limit from to =
    FitsNone normal (20 + length (content_bits content))
    (parsed_bytes content (slice_range message from to)) level limit

-- The message from a place on is cut at places of its content, in order, so that each part fits.
abbrev pub AreFittingCuts : Content → List ℕ → EcLevel → ℕ → ℕ → List ℕ → Type 0
AreFittingCuts content message level limit from [] =
    IsPartTooLong content message level limit from (length message) → ⊥
AreFittingCuts content message level limit from (cut ∷ cuts) =
    (from ≤ cut) × IsCutPlace content message cut
    × (IsPartTooLong content message level limit from cut → ⊥)
    × AreFittingCuts content message level limit cut cuts

-- The cuts make at most 16 parts that fit, and no cuts make fewer parts that fit. Example: 31
-- letters `a` in version 1 at level L are cut at 15 and 30.
pub record AreBestCuts (content : Content) (message : List ℕ) (level : EcLevel) (limit : ℕ)
    (cuts : List ℕ) : Type 0 where
  pub fitting : AreFittingCuts content message level limit 0 cuts
  pub few : length cuts < 16
  pub fewest : (other : List ℕ) → AreFittingCuts content message level limit 0 other →
      length cuts ≤ length other

-- The errors of `best_cuts`, and when each is returned: the limit, which is checked first, is not 1
-- to 40; or no cuts make at most 16 parts that fit.
abbrev pub IsCutsRefusal : Content → List ℕ → EcLevel → ℤ → QrError → Type 0
IsCutsRefusal content message level limit InvalidResourceLimits = IsNormalNumber limit → ⊥
IsCutsRefusal content message level limit DataTooLong =
    IsNormalNumber limit
    × ((cuts : List ℕ) → AreFittingCuts content message level (nat_abs limit) 0 cuts →
    16 ≤ length cuts)
IsCutsRefusal content message level limit OutOfMemory = IsNormalNumber limit
IsCutsRefusal content message level limit other = ⊥
