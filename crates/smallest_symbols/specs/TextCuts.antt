-- Cuts of a text into as few parts as can be, each for one symbol of a sequence, in whichever
-- manner the sequence is written (ISO/IEC 18004:2006, "Structured Append").
use Rattle.std.specs.Prelude.{ℕ, ℤ, nat_abs, chars, ◌*◌, ◌<◌, ◌≤◌, List, [], ◌∷◌, length}
use Rattle.std.specs.Prelude.{◌-◌, ◌^◌, None, Option, Some, Vec, slice_range}
use Rattle.std.specs.declared.alloc.Global.{Global}
use Rattle.qrcode_base.specs.declared.symbols.TheConstants.{LONGEST_DATA}
use Rattle.qrcode_base.specs.declared.types.EcLevel.{EcLevel}
use Rattle.qrcode_base.specs.declared.types.errors.QrError.{QrError}
use Rattle.qrcode_base.specs.declared.types.errors.QrError.TheVariants.{DataTooLong}
use Rattle.qrcode_base.specs.declared.types.errors.QrError.TheVariants.{InvalidResourceLimits}
use Rattle.qrcode_base.specs.declared.types.errors.QrError.TheVariants.{OutOfMemory}
use Rattle.qrcode_base.specs.Symbols.{IsNormalNumber}
use Rattle.qrcode_bits.specs.Places.{IsCutPlace}
use Rattle.qrcode_bits.specs.declared.bits.front.Content.TheVariants.{Text}
use Rattle.text_plans.specs.declared.rules.Manner.{Manner}
use Rattle.smallest_symbols.specs.TextParts.{IsTextPartTooLong}

-- The part of a message, a text in UTF-8, from a place to another fits no version up to a limit
-- after the 20 bits of a header, in a manner.
abbrev pub IsPartFromTooLong : Manner → List ℕ → EcLevel → ℕ → ℕ → ℕ → Type 0
IsPartFromTooLong manner message level limit from to =
    IsTextPartTooLong manner (chars (slice_range message from to)) level limit

-- The message from a place on is cut between characters, in order, so that each part fits in the
-- manner.
abbrev pub AreFittingTextCuts : Manner → List ℕ → EcLevel → ℕ → ℕ → List ℕ → Type 0
AreFittingTextCuts manner message level limit from [] =
    IsPartFromTooLong manner message level limit from (length message) → ⊥
AreFittingTextCuts manner message level limit from (cut ∷ cuts) =
    (from ≤ cut) × IsCutPlace Text message cut
    × (IsPartFromTooLong manner message level limit from cut → ⊥)
    × AreFittingTextCuts manner message level limit cut cuts

-- The cuts make at most 16 parts that fit in some manner, and no cuts make fewer parts that fit in
-- any manner. Example: 31 letters `a` in version 1 at level L are cut at 15 and 30, as each part has
-- 20 bits of its header, 4 and 8 of its segment, and 8 for each letter, of 152.
pub record AreBestTextCuts (message : List ℕ) (level : EcLevel) (limit : ℕ) (cuts : List ℕ)
    : Type 0 where
  pub manner : Manner
  pub fitting : AreFittingTextCuts manner message level limit 0 cuts
  pub few : length cuts < 16
  pub fewest : (any : Manner) (other : List ℕ) →
      AreFittingTextCuts any message level limit 0 other → length cuts ≤ length other

-- No cuts make at most 16 parts that fit in a manner.
abbrev pub HasNoCutsIn : Manner → List ℕ → EcLevel → ℕ → Type 0
HasNoCutsIn manner message level limit =
    (cuts : List ℕ) → AreFittingTextCuts manner message level limit 0 cuts → 16 ≤ length cuts

-- The cuts make at most 16 parts that fit in a manner, and no cuts make fewer that fit in it.
pub record AreFewestIn (manner : Manner) (message : List ℕ) (level : EcLevel) (limit : ℕ)
    (cuts : List ℕ) : Type 0 where
  pub fitting : AreFittingTextCuts manner message level limit 0 cuts
  pub few : length cuts < 16
  pub fewest : (other : List ℕ) → AreFittingTextCuts manner message level limit 0 other →
      length cuts ≤ length other

-- The number of cuts, if there are some, and the greatest number if there are none.
abbrev pub count_of_cuts : Option (Vec ℕ Global) → ℕ
count_of_cuts None = 2 ^ 64 - 1
count_of_cuts (Some cuts) = length cuts.items

-- The errors of `smallest_text_cuts`, and when each is returned: the limit, which is checked first,
-- is not 1 to 40; or no cuts make at most 16 parts that fit in some manner. `OutOfMemory` also says
-- that there are not more characters than 16 symbols of any version hold.
abbrev pub IsTextCutsRefusal : List ℕ → EcLevel → ℤ → QrError → Type 0
IsTextCutsRefusal message level limit InvalidResourceLimits = IsNormalNumber limit → ⊥
IsTextCutsRefusal message level limit DataTooLong =
    IsNormalNumber limit
    × ((manner : Manner) → HasNoCutsIn manner message level (nat_abs limit))
IsTextCutsRefusal message level limit OutOfMemory =
    IsNormalNumber limit × (length (chars message) ≤ 16 * LONGEST_DATA)
IsTextCutsRefusal message level limit other = ⊥
