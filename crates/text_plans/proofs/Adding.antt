-- A character is read again that was appended.
use Rattle.std.proofs.Common.{◌≡◌, ℕ, ◌<◌, Bool, true, false, ◌||◌, inl, inr, List, [], ◌∷◌, ap}
use Rattle.std.proofs.Common.{sym, ◌∙◌, arith, Option, Some, None}
use Rattle.std.proofs.lemmas.Bool.{cond-true, cases_lt}
use Rattle.std.proofs.lemmas.Grind.{common_steps}
use Rattle.qrcode_base.specs.Characters.{is_between, is_alphanumeric}
use Rattle.qrcode_base.specs.declared.types.Mode.TheVariants.{Numeric, Alphanumeric, Byte, Kanji}
use Rattle.character_sets.specs.Reading.{put, each_of, read_bytes, read_kanji, read_segment}
use Rattle.character_sets.specs.Reading.{pair_character, is_shift_jis, digit_character}
use Rattle.character_sets.specs.Reading.{alphanumeric_character}
use Rattle.text_plans.specs.Lanes.{AreFacts}
use Rattle.text_plans.specs.declared.facts.Facts.{Facts}
use Rattle.text_plans.proofs.Sizes.{no_sign}

pub digit_small : (c : ℕ) (facts : Facts) → AreFacts c facts → facts.digit ≡ true → c < 256
digit_small c facts known h =
    let test : is_between 48 57 c ≡ true = sym known.digit ∙ h in grind (arith, common_steps)

sign_is : (c : ℕ) → is_alphanumeric c ≡ true → c < 256
sign_is c h =
    elim (cases_lt c 128) [ inl low ↦ omega arith | inr high ↦ absurd (let e : false ≡ true = sym (no_sign c high) ∙ h in cc) ]

pub sign_small : (c : ℕ) (facts : Facts) → AreFacts c facts → facts.alphanumeric ≡ true → c < 256
sign_small c facts known h = sign_is c (sym known.alphanumeric ∙ h)

one_character : (f : ℕ → Option ℕ) (c : ℕ) → f c ≡ Some c → each_of f (c ∷ []) ≡ Some (c ∷ [])
unfolding each_of
one_character f c h = ap (λ (x : Option ℕ). put x (Some [])) h

pub digit_reads : (plain mixed : Bool) (force : Option ℕ) (c : ℕ) → is_between 48 57 c ≡ true →
    read_segment plain mixed force Numeric (c ∷ []) ≡ Some (c ∷ [])
unfolding read_segment
digit_reads plain mixed force c h = one_character digit_character c (cond-true (is_between 48 57 c) (Some c) None h)

pub sign_reads : (plain mixed : Bool) (force : Option ℕ) (c : ℕ) → is_alphanumeric c ≡ true →
    read_segment plain mixed force Alphanumeric (c ∷ []) ≡ Some (c ∷ [])
unfolding read_segment
sign_reads plain mixed force c h = one_character alphanumeric_character c (cond-true (is_alphanumeric c) (Some c) None h)

one_pair : (lead trail c : ℕ) → pair_character lead trail ≡ Some c → read_kanji (lead ∷ trail ∷ []) ≡ Some (c ∷ [])
unfolding read_kanji
one_pair lead trail c h = ap (λ (x : Option ℕ). put x (Some [])) h

pub kanji_reads : (plain mixed : Bool) (force : Option ℕ) (lead trail c : ℕ) → pair_character lead trail ≡ Some c →
    (plain || is_shift_jis force) ≡ true → read_segment plain mixed force Kanji (lead ∷ trail ∷ []) ≡ Some (c ∷ [])
unfolding read_segment
kanji_reads plain mixed force lead trail c h allowed =
    cond-true (plain || is_shift_jis force) (read_kanji (lead ∷ trail ∷ [])) None allowed ∙ one_pair lead trail c h

pub byte_reads : (plain mixed : Bool) (force : Option ℕ) (bytes text : List ℕ) →
    read_bytes mixed force bytes ≡ Some text → read_segment plain mixed force Byte bytes ≡ Some text
unfolding read_segment
byte_reads plain mixed force bytes text h = h
