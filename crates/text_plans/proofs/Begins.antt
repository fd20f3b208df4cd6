-- The first character of a segment in a lane, by the facts of that character.
use Rattle.std.proofs.Common.{◌≡◌, ◌≢◌, ℕ, ◌+◌, ◌≤◌, ◌<◌, Bool, true, false, ◌||◌, ◌==◌, List, []}
use Rattle.std.proofs.Common.{◌∷◌, length, get_or, refl, ap, sym, ◌∙◌, arith, ◌⊎◌, inl, inr}
use Rattle.std.specs.Prelude.{Option, None, Some, if◌then◌else◌, not, chars, encode_utf8_all}
use Rattle.std.specs.Str.{is_utf8}
use Rattle.std.proofs.lemmas.Str.{encodes-chars, IsUtf8-from_is_utf8}
use Rattle.qrcode_base.specs.Characters.{is_lead}
use Rattle.character_sets.specs.Bytes.{ascii_character, common_character, shift_jis_character}
use Rattle.character_sets.specs.Bytes.{character_of_byte}
use Rattle.character_sets.specs.Reading.{put, read_shift_jis, pair_character}
use Rattle.std.proofs.lemmas.Grind.{common_steps}
use Rattle.qrcode_base.specs.declared.types.Mode.{Mode}
use Rattle.qrcode_base.specs.declared.types.Mode.TheVariants.{Numeric, Alphanumeric, Byte, Kanji}
use Rattle.character_sets.specs.Reading.{read_kanji, read_bytes, read_segment, is_shift_jis}
use Rattle.character_sets.specs.Reading.{digit_character, alphanumeric_character}
use Rattle.text_plans.specs.Lanes.{AreFacts, SuitsMixed, force_of}
use Rattle.text_plans.specs.Search.{can_write}
use Rattle.text_plans.specs.declared.facts.Facts.{Facts}
use Rattle.text_plans.specs.declared.rules.Rules.{Rules}
use Rattle.text_plans.proofs.Fronts.{each_front, digit_is, alphanumeric_is, kanji_front, each_none}
use Rattle.text_plans.proofs.Fronts.{kanji_none, put_some}
use Rattle.text_plans.proofs.Weights.{char_size}

-- A segment begins with a character that is allowed there, and goes on with other bytes.
pub record Begins (plain mixed : Bool) (rules : Rules) (lane : ℕ) (mode : Mode) (facts : Facts) (bytes cs : List ℕ) : Type 0 where
  pub rest : List ℕ
  pub read : read_segment plain mixed (force_of lane) mode rest ≡ Some cs
  pub allowed : can_write rules facts lane mode ≡ true
  pub size : char_size facts lane mode + length rest ≤ length bytes

pub if_list : (b : Bool) (x : Option (List ℕ)) (cs : List ℕ) → (if b then x else None) ≡ Some cs → (b ≡ true) × (x ≡ Some cs)
if_list true x cs h = (refl, h)
if_list false x cs h = absurd (let e : None ≡ Some cs = h in cc)

some_size : (n : ℕ) → n ≢ 0 → not (n == 0) ≡ true
some_size n h = grind (arith, common_steps)

module _ (plain mixed : Bool) (rules : Rules) (lane : ℕ) (suits : SuitsMixed mixed lane) (inside : lane < 17) (facts : Facts) (c : ℕ) (known : AreFacts c facts) where
  pub begins : (mode : Mode) (bytes cs : List ℕ) → (mode ≡ Kanji → rules.kanji_lane ≡ lane) →
      read_segment plain mixed (force_of lane) mode bytes ≡ Some (c ∷ cs) → Begins plain mixed rules lane mode facts bytes cs
  unfolding read_segment
  begins Numeric bytes cs only h =
      let w = each_front digit_character bytes c cs h in
      record {
        rest = w.1;
        read = w.4;
        allowed = known.digit ∙ (digit_is w.0 c w.3).1;
        size = omega (arith, ap (λ (x : List ℕ). length x) w.2);
      }
  begins Alphanumeric bytes cs only h =
      let w = each_front alphanumeric_character bytes c cs h in
      record {
        rest = w.1;
        read = w.4;
        allowed = known.alphanumeric ∙ (alphanumeric_is w.0 c w.3).1;
        size = omega (arith, ap (λ (x : List ℕ). length x) w.2);
      }
  begins Byte bytes cs only h =
      let w = (known.sizes lane inside).front mixed suits bytes cs h in
      record {
        rest = w.0;
        read = w.1;
        allowed = some_size (get_or facts.sizes lane 0) w.3;
        size = w.2;
      }
  begins Kanji bytes cs only h =
      let p = if_list (plain || is_shift_jis (force_of lane)) (read_kanji bytes) (c ∷ cs) h in
      let w = kanji_front bytes c cs p.1 in
      let pair = known.pair w.0 w.1 w.4 in
      let same : (rules.kanji_lane == lane) ≡ true = grind (arith, common_steps, only refl) in
      record {
        rest = w.2;
        read = grind (arith, common_steps, p.0, w.5);
        allowed = grind (arith, common_steps, pair, same);
        size = omega (arith, ap (λ (x : List ℕ). length x) w.3);
      }

-- Only no bytes are read as no text.
utf8_none : (bytes : List ℕ) → is_utf8 bytes ≡ true → chars bytes ≡ [] → bytes ≡ []
utf8_none bytes h e = sym (encodes-chars bytes (IsUtf8-from_is_utf8 bytes h)) ∙ ap (λ (cs : List ℕ). encode_utf8_all cs) e

if_cases : (b : Bool) (x y : Option (List ℕ)) (cs : List ℕ) → (if b then x else y) ≡ Some cs → (x ≡ Some cs) ⊎ (y ≡ Some cs)
if_cases true x y cs h = inl h
if_cases false x y cs h = inr h

shift_jis_none : (bytes : List ℕ) → read_shift_jis bytes ≡ Some [] → bytes ≡ []
unfolding read_shift_jis
shift_jis_none [] h = refl
shift_jis_none (byte ∷ []) h = absurd (put_some (shift_jis_character byte) (Some []) h)
shift_jis_none (byte ∷ next ∷ bytes) h = absurd (elim (is_lead byte) as (λ b. (if b then put (pair_character byte next) (read_shift_jis bytes)
    else put (shift_jis_character byte) (read_shift_jis (next ∷ bytes))) ≡ Some [] → ⊥) [
      | true ↦ λ k. put_some (pair_character byte next) (read_shift_jis bytes) k
      | false ↦ λ k. put_some (shift_jis_character byte) (read_shift_jis (next ∷ bytes)) k
    ] h)

bytes_none : (mixed : Bool) (force : Option ℕ) (bytes : List ℕ) → read_bytes mixed force bytes ≡ Some [] → bytes ≡ []
unfolding read_bytes
bytes_none mixed None bytes h = each_none (if mixed then common_character else ascii_character) bytes h
bytes_none mixed (Some number) bytes h =
    elim (if_cases (number == 20) (read_shift_jis bytes) _ [] h) [
      | inl w ↦ shift_jis_none bytes w
      | inr w ↦
          elim (if_cases (number == 26) (if is_utf8 bytes then Some (chars bytes) else None) _ [] w) [
            | inl v ↦
                let p = if_list (is_utf8 bytes) (Some (chars bytes)) [] v in
                let e : chars bytes ≡ [] = cc in
                utf8_none bytes p.0 e
            | inr v ↦ each_none (character_of_byte (Some number)) bytes v
          ]
    ]

pub segment_none : (plain mixed : Bool) (force : Option ℕ) (mode : Mode) (bytes : List ℕ) →
    read_segment plain mixed force mode bytes ≡ Some [] → bytes ≡ []
unfolding read_segment
segment_none plain mixed force Numeric bytes h = each_none digit_character bytes h
segment_none plain mixed force Alphanumeric bytes h = each_none alphanumeric_character bytes h
segment_none plain mixed force Byte bytes h = bytes_none mixed force bytes h
segment_none plain mixed force Kanji bytes h = kanji_none bytes (if_list (plain || is_shift_jis force) (read_kanji bytes) [] h).1
