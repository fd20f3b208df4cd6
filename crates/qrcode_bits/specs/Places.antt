-- Places at which data may be cut into the parts of a sequence (ISO/IEC 18004:2006, "Structured
-- Append").
use Rattle.std.specs.Prelude.{◌≡◌, ℕ, ◌+◌, ◌<◌, ◌≤◌, List, [], ◌∷◌, length, take, slice_index_or}
use Rattle.std.specs.String.Boundary.{IsSplitPoint}
use Rattle.qrcode_bits.specs.declared.bits.front.Content.{Content}
use Rattle.qrcode_bits.specs.declared.bits.front.Content.TheVariants.{Bytes, Text, Elements}
use Rattle.qrcode_bits.specs.Parsing.{Class, class_size, units}

-- The number of bytes of some units.
abbrev pub total_size : List Class → ℕ
total_size [] = 0
total_size (c ∷ cs) = class_size c + total_size cs

-- The bytes before the place are whole units: no pair of the Kanji mode is cut.
abbrev pub IsUnitEnd : List ℕ → ℕ → Type 0
IsUnitEnd bytes place =
    (n : ℕ) × (n ≤ length (units bytes)) × (place ≡ total_size (take n (units bytes)))

-- Data of a content may be cut at the place: bytes between two units, a text between two
-- characters. Elements are not cut.
abbrev pub IsCutPlace : Content → List ℕ → ℕ → Type 0
IsCutPlace Bytes bytes place = IsUnitEnd bytes place
IsCutPlace Text bytes place = IsSplitPoint bytes place
IsCutPlace Elements bytes place = ⊥

-- These are the places before a limit at which data may be cut, in increasing order.
pub record ArePlacesBefore (limit : ℕ) (content : Content) (bytes places : List ℕ) : Type 0 where
  pub each : (i : ℕ) → i < length places →
      IsCutPlace content bytes (slice_index_or places i 0) × (slice_index_or places i 0 < limit)
  pub all : (place : ℕ) → IsCutPlace content bytes place → place < limit →
      (i : ℕ) × (i < length places) × (slice_index_or places i 0 ≡ place)
  pub increasing : (i j : ℕ) → i < j → j < length places →
      slice_index_or places i 0 < slice_index_or places j 0

-- These are all places at which data may be cut, in increasing order.
abbrev pub AreCutPlaces : Content → List ℕ → List ℕ → Type 0
AreCutPlaces content bytes places = ArePlacesBefore (length bytes + 1) content bytes places
