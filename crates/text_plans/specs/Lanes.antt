-- The lanes in which a text is written: each is what is in force for bytes, by a number. No promise
-- rests on them.
use Rattle.std.specs.Prelude.{◌≡◌, ◌≢◌, ℕ, ◌+◌, ◌≤◌, Bool, true, false, ◌==◌, List, ◌∷◌, [], length}
use Rattle.std.specs.Prelude.{get_or}
use Rattle.std.specs.Prelude.{Option, None, Some, if◌then◌else◌, ◌<◌, nat_lt}
use Rattle.qrcode_base.specs.Characters.{is_between, is_alphanumeric}
use Rattle.character_sets.specs.Bytes.{character_of_byte, common_character}
use Rattle.character_sets.specs.Reading.{pair_character, read_bytes}
use Rattle.text_plans.specs.declared.facts.Facts.{Facts}

-- The designator of a lane. In the lanes 0 and 16 there is none: in a symbol without a Kanji
-- segment, and in one with such a segment.
unfoldable pub force_of : ℕ → Option ℕ
force_of lane =
    if is_between 1 9 lane then Some (lane + 2)
    else (if lane == 10 then Some 13
    else (if lane == 11 then Some 15
    else (if is_between 12 13 lane then Some (lane + 5)
    else (if lane == 14 then Some 20
    else (if lane == 15 then Some 26 else None)))))

-- How far the designator of a part of ISO/IEC 8859 is from 3, by the lane less 1: 12, 14 and 16 are
-- none.
abbrev pub column_of : ℕ → ℕ
column_of part =
    if nat_lt part 9 then part
    else (if part == 9 then 10 else (if part == 10 then 12 else part + 3))

-- The character of a single byte in a lane: in lane 16 ASCII that is the same in JIS X 0201.
unfoldable pub single_character : ℕ → ℕ → Option ℕ
single_character lane = if lane == 16 then common_character else character_of_byte (force_of lane)

-- A lane is one of a symbol that has a Kanji segment, or of one that has none.
abbrev pub SuitsMixed : Bool → ℕ → Type 0
SuitsMixed mixed lane = (lane ≡ 0 → mixed ≡ false) × (lane ≡ 16 → mixed ≡ true)

-- A character has this number of bytes in a lane, and none at all if it is 0.
pub record IsSize (lane c size : ℕ) : Type 0 where
  pub some : size ≢ 0 → (mixed : Bool) → SuitsMixed mixed lane → (bytes : List ℕ)
      × (length bytes ≡ size) × (read_bytes mixed (force_of lane) bytes ≡ Some (c ∷ []))
  pub front : (mixed : Bool) → SuitsMixed mixed lane → (bytes cs : List ℕ) →
      read_bytes mixed (force_of lane) bytes ≡ Some (c ∷ cs) →
      (rest : List ℕ) × (read_bytes mixed (force_of lane) rest ≡ Some cs)
      × (size + length rest ≤ length bytes) × (size ≢ 0)

-- What is so of a character: whether it is a digit, an Alphanumeric character, a pair of the Kanji
-- mode, and its number of bytes in each lane.
pub record AreFacts (c : ℕ) (facts : Facts) : Type 0 where
  pub digit : facts.digit ≡ is_between 48 57 c
  pub alphanumeric : facts.alphanumeric ≡ is_alphanumeric c
  pub pair : (lead trail : ℕ) → pair_character lead trail ≡ Some c → facts.pair ≡ true
  pub paired : facts.pair ≡ true → (pair : ℕ × ℕ) × (pair_character pair.0 pair.1 ≡ Some c)
  pub sizes : (lane : ℕ) → lane < 17 → IsSize lane c (get_or facts.sizes lane 0)

-- The facts of each character of a text.
abbrev pub AreAllFacts : List ℕ → List Facts → Type 0
AreAllFacts [] [] = Unit {0}
AreAllFacts (c ∷ cs) (f ∷ fs) = AreFacts c f × AreAllFacts cs fs
AreAllFacts cs fs = ⊥
