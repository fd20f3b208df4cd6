-- The lanes of the parts of ISO/IEC 8859, of a character that is not ASCII.
use Rattle.std.proofs.Common.{◌≡◌, ℕ, zero, suc, ◌+◌, ◌≤◌, ◌<◌, true, false, ◌==◌, min, ap, sym}
use Rattle.std.proofs.Common.{◌∙◌, subst, ne_eqb, arith}
use Rattle.std.specs.Prelude.{Option, Some}
use Rattle.std.proofs.lemmas.Bool.{cond-true}
use Rattle.std.proofs.lemmas.Grind.{common_steps}
use Rattle.character_sets.specs.Bytes.{IsPartByte, character_of_byte, is_part, part_character}
use Rattle.text_plans.specs.Lanes.{IsSize, column_of, force_of, single_character}
use Rattle.text_plans.proofs.Sizes.{is_other, no_size, one_size, single_lane}

-- The lanes 1 to 13 are those of the parts, in the order of their designators.
part_at : (part : ℕ) → part < 13 → (force_of (part + 1) ≡ Some (column_of part + 3)) × (is_part (column_of part + 3) ≡ true)
unfolding force_of
part_at part inside = (grind (arith, common_steps, inside), grind (arith, common_steps, inside))

by_part : (designator byte : ℕ) → is_part designator ≡ true → character_of_byte (Some designator) byte ≡ part_character designator byte
unfolding character_of_byte
by_part designator byte h = cond-true (is_part designator) (part_character designator byte) _ h

single_part : (part byte : ℕ) → part < 13 → single_character (part + 1) byte ≡ part_character (column_of part + 3) byte
single_part part byte inside =
    let at = part_at part inside in
    let other : (part + 1 == 16) ≡ false = ne_eqb (part + 1) 16 (λ e. absurd (omega (arith, e))) in
    ap (λ (f : ℕ → Option ℕ). f byte) (is_other (part + 1) other)
    ∙ ap (λ (force : Option ℕ). character_of_byte force byte) at.0
    ∙ by_part (column_of part + 3) byte at.1

pub part_size : (part c byte : ℕ) → part < 13 → IsPartByte (column_of part + 3) c byte → IsSize (part + 1) c (min byte 1)
part_size part c zero inside h =
    no_size (part + 1) (single_character (part + 1)) c (single_lane (part + 1) (omega arith) (λ e. absurd (omega (arith, e))) (λ e. absurd (omega (arith, e))))
    (λ byte is. let w = h.found byte (sym (single_part part byte inside) ∙ is) in w.1 (sym w.0))
part_size part c (suc n) inside h =
    let one : 1 ≡ min (suc n) 1 = omega arith in
    subst (λ (size : ℕ). IsSize (part + 1) c size) one
    (one_size (part + 1) (single_character (part + 1)) c (suc n)
    (single_lane (part + 1) (omega arith) (λ e. absurd (omega (arith, e))) (λ e. absurd (omega (arith, e))))
    (single_part part (suc n) inside ∙ h.right (λ e. absurd (omega (arith, e)))))

-- Without a designator there is ASCII alone.
no_first : (byte c : ℕ) → 128 ≤ c → single_character 0 byte ≡ Some c → ⊥
unfolding single_character force_of character_of_byte
no_first byte c beyond h = absurd (grind (arith, common_steps, beyond, h))

no_last : (byte c : ℕ) → 128 ≤ c → single_character 16 byte ≡ Some c → ⊥
unfolding single_character
no_last byte c beyond h = absurd (grind (arith, common_steps, beyond, h))

pub first_size : (c : ℕ) → 128 ≤ c → IsSize 0 c 0
first_size c beyond =
    no_size 0 (single_character 0) c (single_lane 0 (omega arith) (λ e. absurd (omega (arith, e))) (λ e. absurd (omega (arith, e))))
    (λ byte h. no_first byte c beyond h)

pub last_size : (c : ℕ) → 128 ≤ c → IsSize 16 c 0
last_size c beyond =
    no_size 16 (single_character 16) c (single_lane 16 (omega arith) (λ e. absurd (omega (arith, e))) (λ e. absurd (omega (arith, e))))
    (λ byte h. no_last byte c beyond h)
