-- A single byte, a pair, or neither.
use Rattle.std.proofs.Common.{◌≡◌, ℕ, None, Some, sym, ◌∙◌, refl}
use Rattle.character_sets.specs.Bytes.{character_of_byte, shift_jis_character}
use Rattle.text_plans.proofs.Sizes.{kana_size, no_shift_jis, pair_size}
use Rattle.text_plans.proofs.facts.size_in_shift_jis.Goals as goal

by_designator : (byte : ℕ) → character_of_byte (Some 20) byte ≡ shift_jis_character byte
unfolding character_of_byte
by_designator byte = refl

pub returns-in-Some : goal.returns-in-Some
returns-in-Some c = kana_size c.args.c c.in-Some.field-0 (sym (by_designator c.in-Some.field-0) ∙ c.in-Some.ensures.right)

pub returns-in-Some-pair_of : goal.returns-in-Some-pair_of
returns-in-Some-pair_of c =
    pair_size c.args.c c.in-Some-pair_of.field-0.0 c.in-Some-pair_of.field-0.1
    (λ byte h. let e : None ≡ Some byte = c.in-None.ensures.found byte (by_designator byte ∙ h) in cc)
    c.in-Some-pair_of.ensures.right

pub returns-in-None-pair_of : goal.returns-in-None-pair_of
returns-in-None-pair_of c =
    no_shift_jis c.args.c (λ byte h. let e : None ≡ Some byte = c.in-None.ensures.found byte (by_designator byte ∙ h) in cc)
    (λ lead trail h. let e : None ≡ Some (lead, trail) = c.in-None-pair_of.ensures.found lead trail h in cc)
