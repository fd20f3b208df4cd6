-- Weights of characters and of segments.
use Rattle.std.proofs.Common.{◌≡◌, ℕ, ◌+◌, ◌*◌, ◌/◌, ◌%◌, ◌≤◌, ◌==◌, refl, arith, min}
use Rattle.std.specs.Prelude.{if◌then◌else◌}
use Rattle.qrcode_base.specs.Modes.{data_bits, characters}
use Rattle.qrcode_base.specs.declared.types.Mode.{Mode}
use Rattle.qrcode_base.specs.declared.types.Mode.TheVariants.{Numeric, Alphanumeric, Byte, Kanji}
use Rattle.std.proofs.lemmas.Grind.{common_steps}
use Rattle.text_plans.specs.declared.facts.Facts.{Facts}
use Rattle.text_plans.specs.declared.row.Rest.{Rest}
use Rattle.text_plans.specs.declared.rules.Rules.{Rules}
pub use Rattle.text_plans.specs.Choices.{char_size}
use Rattle.text_plans.specs.Search.{next_bits, onward, go_on, lane_before}

-- The data bits of some bytes in a mode.
abbrev pub bits_in : Mode → ℕ → ℕ
bits_in mode count = data_bits mode (characters mode count)

digits_more : (count : ℕ) → (10 * count + 2) / 3 + (if count % 3 == 0 then 4 else 3) ≡ (10 * (count + 1) + 2) / 3
digits_more count = grind (arith, common_steps)

signs_more : (count : ℕ) → (11 * count + 1) / 2 + (if count % 2 == 0 then 6 else 5) ≡ (11 * (count + 1) + 1) / 2
signs_more count = grind (arith, common_steps)

-- A character more.
pub bits_more : (facts : Facts) (lane : ℕ) (mode : Mode) (count : ℕ) →
    bits_in mode count + next_bits facts lane mode count ≡ bits_in mode (count + char_size facts lane mode)
bits_more facts lane Numeric count = digits_more count
bits_more facts lane Alphanumeric count = signs_more count
bits_more facts lane Byte count = omega arith
bits_more facts lane Kanji count = omega arith

-- More bytes take no fewer bits.
pub bits_rise : (mode : Mode) (few many : ℕ) → few ≤ many → bits_in mode few ≤ bits_in mode many
bits_rise Numeric few many h = omega arith
bits_rise Alphanumeric few many h = omega arith
bits_rise Byte few many h = omega arith
bits_rise Kanji few many h = omega arith

pub onward_more : (facts : Facts) (lane : ℕ) (rest : Rest) (mode : Mode) (count : ℕ) →
    onward rest mode (count + 1) ≡ onward rest mode (count + char_size facts lane mode)
onward_more facts lane rest Numeric count = refl
onward_more facts lane rest Alphanumeric count = refl
onward_more facts lane rest Byte count = refl
onward_more facts lane rest Kanji count = refl

-- ---- What follows, from a character on

three_cases : (rules : Rules) (facts : Facts) (lane switched : ℕ) (rest : Rest) (count : ℕ) →
    onward (lane_before rules facts switched lane rest) Numeric count
    ≡ min (lane_before rules facts switched lane rest).fresh (go_on rules facts lane rest Numeric count)
unfolding lane_before
three_cases rules facts lane switched rest count = grind (arith, common_steps)

two_cases : (rules : Rules) (facts : Facts) (lane switched : ℕ) (rest : Rest) (count : ℕ) →
    onward (lane_before rules facts switched lane rest) Alphanumeric count
    ≡ min (lane_before rules facts switched lane rest).fresh (go_on rules facts lane rest Alphanumeric count)
unfolding lane_before
two_cases rules facts lane switched rest count = grind (arith, common_steps)

-- A segment goes on, or a new part begins.
pub onward_is : (rules : Rules) (facts : Facts) (lane switched : ℕ) (rest : Rest) (mode : Mode) (count : ℕ) →
    onward (lane_before rules facts switched lane rest) mode count
    ≡ min (lane_before rules facts switched lane rest).fresh (go_on rules facts lane rest mode count)
unfolding lane_before
onward_is rules facts lane switched rest Numeric count = three_cases rules facts lane switched rest count
onward_is rules facts lane switched rest Alphanumeric count = two_cases rules facts lane switched rest count
onward_is rules facts lane switched rest Byte count = refl
onward_is rules facts lane switched rest Kanji count = refl
