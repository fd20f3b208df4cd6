-- Two bytes are one character of the Kanji mode, and no other two are it.
use Rattle.std.proofs.Common.{◌≡◌, ℕ, ◌+◌, ◌-◌, ◌*◌, ◌<◌, ◌≤◌, Bool, true, false, refl, ap, sym}
use Rattle.std.proofs.Common.{◌∙◌, arith}
use Rattle.std.specs.Prelude.{Option, None, Some, if◌then◌else◌}
use Rattle.std.proofs.lemmas.Bool.{cond-true}
use Rattle.std.proofs.lemmas.Grind.{common_steps}
use Rattle.character_sets.specs.Kanji.{character_of}
use Rattle.character_sets.specs.Kanji.{pair_number as jis_number, is_shift_jis_pair as is_jis_pair}
use Rattle.qrcode_base.specs.Characters.{is_kanji_pair, kanji_number}
use Rattle.character_sets.specs.Reading.{pair_character}

-- The two crates have the same numbers and pairs.
same_numbers : (lead trail : ℕ) → jis_number lead trail ≡ kanji_number lead trail
unfolding jis_number kanji_number
same_numbers lead trail = refl

same_pairs : (lead trail : ℕ) → is_jis_pair lead trail ≡ is_kanji_pair lead trail
same_pairs lead trail = refl

number_low : (a b : ℕ) → 129 ≤ a → a < 160 → 64 ≤ b → b < 256 → kanji_number a b ≡ (a - 129) * 192 + (b - 64)
unfolding kanji_number
number_low a b l u lb ub = grind arith

number_high : (a b : ℕ) → 224 ≤ a → 64 ≤ b → b < 256 → kanji_number a b ≡ (a - 193) * 192 + (b - 64)
unfolding kanji_number
number_high a b l lb ub = grind arith

trail_within : (a b : ℕ) → is_kanji_pair a b ≡ true → (64 ≤ b) × (b < 253)
trail_within a b h = grind arith

-- No two pairs have one number.
one_pair : (a b c d : ℕ) → is_kanji_pair a b ≡ true → is_kanji_pair c d ≡ true → kanji_number a b ≡ kanji_number c d → (a ≡ c) × (b ≡ d)
one_pair a b c d h k e = grind (arith, common_steps, number_low, number_high, trail_within)

pub pair_right : (kanji lead trail c : ℕ) → character_of kanji ≡ Some c → is_jis_pair lead trail ≡ true → jis_number lead trail ≡ kanji →
    pair_character lead trail ≡ Some c
pair_right kanji lead trail c h pair number =
    cond-true (is_kanji_pair lead trail) (character_of (kanji_number lead trail)) None (sym (same_pairs lead trail) ∙ pair)
    ∙ ap character_of (sym (same_numbers lead trail) ∙ number) ∙ h

-- What a pair that is a character says.
pub pair_says : (lead trail c : ℕ) → pair_character lead trail ≡ Some c →
    (is_kanji_pair lead trail ≡ true) × (character_of (kanji_number lead trail) ≡ Some c)
pair_says lead trail c h = of_test (is_kanji_pair lead trail) (character_of (kanji_number lead trail)) h
  where
    of_test : (b : Bool) (x : Option ℕ) → (if b then x else None) ≡ Some c → (b ≡ true) × (x ≡ Some c)
    of_test true x h = (refl, h)
    of_test false x h = absurd (let e : None ≡ Some c = h in cc)

pub pair_found : (kanji lead trail c : ℕ) (pair : ℕ × ℕ) → pair_character lead trail ≡ Some c → kanji ≡ kanji_number lead trail →
    is_jis_pair pair.0 pair.1 ≡ true → jis_number pair.0 pair.1 ≡ kanji → pair ≡ (lead, trail)
pair_found kanji lead trail c pair h e good number =
    let p = one_pair pair.0 pair.1 lead trail (sym (same_pairs pair.0 pair.1) ∙ good) (pair_says lead trail c h).0
    (sym (same_numbers pair.0 pair.1) ∙ number ∙ e) in
    rw p.0 (rw p.1 refl)
