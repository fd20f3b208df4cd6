-- How the least parts of a text are looked for: from the end of the text on, by the least weight of
-- what follows each character. No promise rests on it.
use Rattle.std.specs.Prelude.{◌≡◌, ℕ, ◌+◌, ◌*◌, ◌%◌, Bool, true, false, ◌==◌, ◌&&◌, not, List, [], ◌∷◌}
use Rattle.std.specs.Prelude.{zero, suc, min, get_or, map, if◌then◌else◌}
use Rattle.std.specs.List.{range_with_len}
use Rattle.qrcode_base.specs.declared.types.Mode.{Mode}
use Rattle.qrcode_base.specs.declared.types.Mode.TheVariants.{Numeric, Alphanumeric, Byte, Kanji}
use Rattle.text_plans.specs.declared.facts.Facts.{Facts}
use Rattle.text_plans.specs.declared.row.Rest.{Rest}
use Rattle.text_plans.specs.declared.row.TheConstants.{BIT, LIMIT}
use Rattle.text_plans.specs.declared.rules.Rules.{Rules}

-- A weight up to the limit, or the limit if it is not allowed.
abbrev pub weight_if : Bool → ℕ → ℕ
weight_if true weight = min LIMIT weight
weight_if false weight = LIMIT

-- Whether a character can be written in a mode, in a lane.
abbrev pub can_write : Rules → Facts → ℕ → Mode → Bool
can_write rules facts lane Numeric = facts.digit
can_write rules facts lane Alphanumeric = facts.alphanumeric
can_write rules facts lane Byte = not (get_or facts.sizes lane 0 == 0)
can_write rules facts lane Kanji = facts.pair && (rules.kanji_lane == lane)

-- A character can be written in no mode, in a lane.
abbrev pub IsUnwritable : Rules → ℕ → Facts → Type 0
IsUnwritable rules lane facts = (mode : Mode) → can_write rules facts lane mode ≡ false

-- The weight of the header of a segment.
abbrev pub header_weight : Rules → Mode → ℕ
header_weight rules Numeric = rules.numeric
header_weight rules Alphanumeric = rules.alphanumeric
header_weight rules Byte = rules.byte
header_weight rules Kanji = rules.kanji

-- The bits of a character in a segment of a mode, after a number of bytes.
abbrev pub next_bits : Facts → ℕ → Mode → ℕ → ℕ
next_bits facts lane Numeric count = if count % 3 == 0 then 4 else 3
next_bits facts lane Alphanumeric count = if count % 2 == 0 then 6 else 5
next_bits facts lane Byte count = 8 * get_or facts.sizes lane 0
next_bits facts lane Kanji count = 13

-- The least weight of what follows in a lane, while a segment of a mode and a number of bytes may
-- go on.
abbrev pub onward : Rest → Mode → ℕ → ℕ
onward rest Numeric count =
    if count % 3 == 0 then rest.digits0 else (if count % 3 == 1 then rest.digits1 else rest.digits2)
onward rest Alphanumeric count = if count % 2 == 0 then rest.signs0 else rest.signs1
onward rest Byte count = rest.byte
onward rest Kanji count = rest.kanji

-- A character goes on with a segment.
abbrev pub go_on : Rules → Facts → ℕ → Rest → Mode → ℕ → ℕ
go_on rules facts lane rest mode count =
    weight_if (can_write rules facts lane mode)
    (BIT * next_bits facts lane mode count + onward rest mode (count + 1))

-- A character begins a segment of a mode.
abbrev pub begin_in : Rules → Facts → ℕ → Rest → Mode → ℕ
begin_in rules facts lane rest mode =
    weight_if (can_write rules facts lane mode)
    (header_weight rules mode + (BIT * next_bits facts lane mode 0 + onward rest mode 1))

-- A character begins a segment.
unfoldable pub begin_least : Rules → Facts → ℕ → Rest → ℕ
begin_least rules facts lane rest =
    min (min (begin_in rules facts lane rest Numeric) (begin_in rules facts lane rest Alphanumeric))
    (min (begin_in rules facts lane rest Byte) (begin_in rules facts lane rest Kanji))

-- Nothing follows.
abbrev pub no_rest : Rest
no_rest = record {
  fresh = 0;
  digits0 = 0;
  digits1 = 0;
  digits2 = 0;
  signs0 = 0;
  signs1 = 0;
  byte = 0;
  kanji = 0;
}

-- A character begins a segment after a designator: of the lanes 1 to `count` the least.
unfoldable pub switch_least : Rules → Facts → List Rest → ℕ → ℕ
switch_least rules facts row zero = LIMIT
switch_least rules facts row (suc lane) =
    min (switch_least rules facts row lane)
    (weight_if true
    (rules.designator + begin_least rules facts (suc lane) (get_or row (suc lane) no_rest)))

-- What follows from a character on in a lane, by what follows it: `switched` is the least weight
-- after a designator.
unfoldable pub lane_before : Rules → Facts → ℕ → ℕ → Rest → Rest
lane_before rules facts switched lane rest =
    let fresh = min (begin_least rules facts lane rest) switched in
    record {
      fresh = fresh;
      digits0 = min fresh (go_on rules facts lane rest Numeric 0);
      digits1 = min fresh (go_on rules facts lane rest Numeric 1);
      digits2 = min fresh (go_on rules facts lane rest Numeric 2);
      signs0 = min fresh (go_on rules facts lane rest Alphanumeric 0);
      signs1 = min fresh (go_on rules facts lane rest Alphanumeric 1);
      byte = min fresh (go_on rules facts lane rest Byte 0);
      kanji = min fresh (go_on rules facts lane rest Kanji 0);
    }

-- The same in all lanes.
unfoldable pub row_before : Rules → Facts → List Rest → List Rest
row_before rules facts row =
    map
    (λ lane. lane_before rules facts (switch_least rules facts row 15) lane (get_or row lane no_rest))
    (range_with_len 0 17)

-- What follows before some characters, in all lanes.
unfoldable pub rests_of : Rules → List Facts → List Rest
rests_of rules [] = map (λ (lane : ℕ). no_rest) (range_with_len 0 17)
rests_of rules (facts ∷ rest) = row_before rules facts (rests_of rules rest)
