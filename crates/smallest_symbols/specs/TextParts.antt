-- The version that a part of a text takes in a symbol of a sequence: the smallest in which some
-- parts that are read as it, in the manner of the sequence, fit after the header, which takes 20
-- bits (ISO/IEC 18004:2006, "Structured Append" and "Data analysis" of the encode procedure).
use Rattle.std.specs.Prelude.{◌≡◌, ℕ, ◌+◌, ◌*◌, ◌<◌, ◌≤◌, List, [], Some, length, chars}
use Rattle.std.specs.Prelude.{slice_index_or}
use Rattle.qrcode_base.specs.Symbols.{capacity}
use Rattle.qrcode_base.specs.declared.symbols.TheConstants.{LONGEST_DATA}
use Rattle.qrcode_base.specs.declared.types.EcLevel.{EcLevel}
use Rattle.qrcode_base.specs.declared.types.Version.{Version}
use Rattle.qrcode_base.specs.declared.types.errors.QrError.{QrError}
use Rattle.qrcode_base.specs.declared.types.errors.QrError.TheVariants.{DataTooLong, OutOfMemory}
use Rattle.qrcode_bits.specs.Plans.{normal}
use Rattle.qrcode_core.specs.Sequence.{parts_at}
use Rattle.character_sets.specs.Reading.{Part}
use Rattle.text_plans.specs.Costs.{bits_of_parts}
use Rattle.text_plans.specs.Manners.{AreLeastIn, ArePartsIn}
use Rattle.text_plans.specs.declared.rules.Manner.{Manner}

-- Parts that are read as a text in a manner fit a version at a level after the 20 bits of a header:
-- the version has the level, can have the parts, and holds the bits of both.
pub record PartsFitAfterHeader (manner : Manner) (version : Version) (level : EcLevel)
    (text : List ℕ) (parts : List Part) : Type 0 where
  pub written : ArePartsIn manner version text parts
  pub limit : ℕ
  pub has_level : capacity version level ≡ Some limit
  pub within : 20 + bits_of_parts version parts ≤ limit

-- No parts that are read as the text in the manner fit the version after a header.
abbrev pub NoPartsFitAfterHeader : Manner → Version → EcLevel → List ℕ → Type 0
NoPartsFitAfterHeader manner version level text =
    (parts : List Part) → PartsFitAfterHeader manner version level text parts → ⊥

-- The text is too long for one symbol of a sequence: no parts that are read as it in the manner fit
-- any version up to a limit after a header.
abbrev pub IsTextPartTooLong : Manner → List ℕ → EcLevel → ℕ → Type 0
IsTextPartTooLong manner text level limit =
    (number : ℕ) → number ≤ limit → NoPartsFitAfterHeader manner (normal number) level text

-- The smallest version up to a limit in which some parts fit after a header, and the parts that
-- take the fewest bits there in the manner. Example: twelve letters `a` take 108 bits and with a
-- header 128, the capacity of version 1 at level M; thirteen take version 2.
pub record IsPartChoice (manner : Manner) (text : List ℕ) (level : EcLevel) (limit number : ℕ)
    (parts : List Part) : Type 0 where
  pub up_to : number ≤ limit
  pub are_least : AreLeastIn manner (normal number) text parts
  pub fits : PartsFitAfterHeader manner (normal number) level text parts
  pub smallest : (smaller : ℕ) → smaller < number →
      NoPartsFitAfterHeader manner (normal smaller) level text

-- No version before a number has room for a header and so many characters: no mode takes fewer than
-- ten bits for three characters.
abbrev pub HaveNoRoomBefore : ℕ → ℕ → Type 0
HaveNoRoomBefore end count =
    (number limit : ℕ) (level : EcLevel) → number < end →
    capacity (normal number) level ≡ Some limit → 3 * limit < 3 * 20 + 10 * count

-- Why a text has no choice up to a limit: no parts that are read as it in the manner fit any of
-- the versions after a header, or an allocation failed, which it can only of at most 7089
-- characters.
abbrev pub HasNoPartChoice : Manner → List ℕ → EcLevel → ℕ → QrError → Type 0
HasNoPartChoice manner text level limit DataTooLong = IsTextPartTooLong manner text level limit
HasNoPartChoice manner text level limit OutOfMemory = length text ≤ LONGEST_DATA
HasNoPartChoice manner text level limit other = ⊥

-- ---- The parts of a text

-- The text of the part at an index of a text in UTF-8 that is cut at some places.
abbrev pub text_of_part : List ℕ → List ℕ → ℕ → List ℕ
text_of_part message cuts index = chars (slice_index_or (parts_at cuts message) index [])

-- Some part is too long in a manner: nothing that is read as its text fits any version up to the
-- limit after its header.
abbrev pub IsSomePartTooLongIn : Manner → List ℕ → List ℕ → EcLevel → ℕ → Type 0
IsSomePartTooLongIn manner message cuts level limit =
    (i : ℕ) × (i < length cuts + 1)
    × IsTextPartTooLong manner (text_of_part message cuts i) level limit

-- In each manner some part is too long.
abbrev pub IsSomeTextPartTooLong : List ℕ → List ℕ → EcLevel → ℕ → Type 0
IsSomeTextPartTooLong message cuts level limit =
    (manner : Manner) → IsSomePartTooLongIn manner message cuts level limit
