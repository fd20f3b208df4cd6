-- What a mode can encode, each greater mode can encode too.
use Rattle.qrcode_bits.proofs.Prelude.{◌≡◌, ℕ, ◌+◌, ◌-◌, ◌<◌, Bool, true, List, [], ◌∷◌, ◌++◌, refl, ◌∙◌, subst, arith, get_or, All, Contains, nat_lt, ◌==◌}
use Rattle.qrcode_bits.proofs.Prelude.{get_or_default_zero, ltb-true, eqb-true, All-nil, All-append, Mode, Numeric, Alphanumeric, Byte, Kanji, IsWithin, same}
use Rattle.qrcode_bits.proofs.Prelude.{digits, bytes, IsDigit, alphabet, IsKanjiText, IsValid, All-weaker}
use Rattle.qrcode_base.proofs.Alphabet.{each_below, from_each_below}
use Rattle.qrcode_bits.proofs.Characters.{value_below, character_at_value, kanji_trail}

-- Two texts of a mode, one after the other, are one.
pub valid-append : (m : Mode) (s t : List ℕ) → IsValid m s → IsValid m t → IsValid m (s ++ t)
valid-append Numeric s t h k = All-append IsDigit s t h k
valid-append Alphanumeric s t h k = All-append (λ c. Contains alphabet c) s t h k
valid-append Byte s t h k = All-append (λ c. c < 256) s t h k
valid-append Kanji s t h k = kanji-append s t h k where
  kanji-append : (s t : List ℕ) → IsKanjiText s → IsKanjiText t → IsKanjiText (s ++ t)
  kanji-append [] t h k = k
  kanji-append (a ∷ []) t h k = absurd h
  kanji-append (a ∷ b ∷ s) t h k = (h.0, kanji-append s t h.1 k)

-- ---- Digits are in the alphabet

in_alphabet : (k : ℕ) → k < 45 → Contains alphabet (get_or alphabet k 0)
in_alphabet k h = (k, h, get_or_default_zero alphabet k (get_or alphabet k 0) h)

alphabet_digits : each_below 10 (λ k. get_or alphabet k 0 == k + 48) ≡ true
unfolding each_below
alphabet_digits = refl

digit_sign : (c : ℕ) → IsDigit c → Contains alphabet c
digit_sign c h =
    let same = eqb-true _ _ (from_each_below 10 (λ k. get_or alphabet k 0 == k + 48) alphabet_digits (c - 48) (omega arith)) in
    subst (λ (z : ℕ). Contains alphabet z) (same ∙ omega arith) (in_alphabet (c - 48) (omega arith))

-- ---- Each character is a byte

abbrev small_at : ℕ → Bool
small_at k = nat_lt (get_or alphabet k 0) 256

alphabet_small : each_below 45 small_at ≡ true
unfolding each_below
alphabet_small = refl

sign_byte : (c : ℕ) → Contains alphabet c → c < 256
sign_byte c h =
    subst (λ (z : ℕ). z < 256) (character_at_value c h) (ltb-true _ _ (from_each_below 45 small_at alphabet_small _ (value_below c h)))

kanji_bytes : (s : List ℕ) → IsKanjiText s → All (λ c. c < 256) s
kanji_bytes [] h = All-nil (λ c. c < 256)
kanji_bytes (a ∷ []) h = absurd h
kanji_bytes (a ∷ b ∷ s) h = grind (arith, kanji_trail, kanji_bytes s h.1)

pub valid_bytes : (m : Mode) (s : List ℕ) → IsValid m s → All (λ c. c < 256) s
valid_bytes Numeric s h = All-weaker IsDigit (λ c. c < 256) (λ c d. omega arith) s h
valid_bytes Alphanumeric s h = All-weaker (λ c. Contains alphabet c) (λ c. c < 256) sign_byte s h
valid_bytes Byte s h = h
valid_bytes Kanji s h = kanji_bytes s h

-- What a mode can encode, each greater mode can encode.
pub valid-upward : {m k : Mode} (s : List ℕ) → IsWithin m k → IsValid m s → IsValid k s
valid-upward s same h = h
valid-upward s digits h = All-weaker IsDigit (λ c. Contains alphabet c) digit_sign s h
valid-upward {m} s bytes h = valid_bytes m s h
